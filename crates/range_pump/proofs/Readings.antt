-- The fixes that a reader gave, and one more.
use Rattle.std.proofs.Common.{◌≡◌, ◌+◌, List, [], ◌∷◌, ◌++◌, Some, Ok, refl, arith, add-one, append_assoc, length-append}
use Rattle.std.proofs.Math.Seq.{take-suc}
use Rattle.std.proofs.lemmas.Option.{get_or_from_slice_get, slice_get_within}
use Rattle.range_plane.specs.declared.fix.Fix.{Fix}
use Rattle.range_fixes.specs.Progress.{Answers, Progress, Reads}
use Rattle.range_fixes.specs.Reading.{Reading}
use Rattle.range_pump.specs.Blocks.{GivesNext}

-- the reader gave one fix more of each reading that it goes through
pub gives_more : (p q s : Progress) (fixes : List Fix) (fix : Fix) → GivesNext p fixes q → ((r : Reading) → Reads q r → Reads s r)
    → ((r : Reading) → Reads q r → Answers r q.count (Ok (Some fix))) → s.count ≡ q.count + 1 → GivesNext p (fixes ++ fix ∷ []) s
gives_more p q s fixes fix before keeps gives count = record {
  count = omega (arith, length-append fixes (fix ∷ []), before.count, count);
  reads = λ r h. keeps r (before.reads r h);
  next = λ r h.
      let given = gives r (before.reads r h) in
      let within = slice_get_within r.fixes q.count fix given in
      let one = get_or_from_slice_get r.fixes q.count fix fix given in
      rw (count, add-one, take-suc r.fixes q.count fix within, one, before.next r h, append_assoc) refl;
}
