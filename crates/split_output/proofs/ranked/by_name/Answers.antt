use Rattle.std.proofs.Common.{◌≡◌, ◌∙◌, ℕ, ◌<◌, Bor, List, [], ◌∷◌, ◌++◌, IsPermutation, get_or, length, map, sym, ap, subst, arith}
use Rattle.std.proofs.lemmas.List.{get_or-map, length-map, map-append, take_all}
use Rattle.std.proofs.lemmas.List.Elements.{All-push}
use Rattle.std.proofs.lemmas.List.Sorted.{All-permutation, IsPermutation-map}
use Rattle.std.specs.List.{enumerate_from}
use Rattle.std.specs.Ordering.{is_lt}
use Rattle.split_export.specs.declared.files.TrackFile.{TrackFile}
use Rattle.split_output.specs.Left.{name_cmp}
use Rattle.split_output.proofs.ByName.{IsSortedBy-map, numbered-push}
use Rattle.split_output.proofs.ranked.by_name.Goals as goal

-- what is seen of an animal with the name of its file
abbrev seen : Bor (List ℕ) × ℕ → ℕ × List ℕ
seen one = (one.1, one.0.now)

-- its name
abbrev name_of : TrackFile → List ℕ
name_of file = file.name.items

pub loop-animal-preserved : goal.loop-animal-preserved
loop-animal-preserved c =
    let inv = c.loop-animal.invariant in
    let k = c.loop-animal.animal in
    let files = c.args.split.now.files.items in
    let names = map name_of files in
    let name = c.as_slice.result in
    let below : k < length files = omega (arith, c.loop-animal-test.true, c.requires) in
    let within : k < length names = omega (arith, below, length-map files name_of) in
    let is : get_or names k [] ≡ name.now = get_or-map name_of files k c.index.result.now [] below ∙ (ap name_of (sym c.index.ensures) ∙ sym c.as_slice.ensures.value) in
    record {
      within = rw c.in_ok-push.ensures.items (All-push (λ (one : Bor (List ℕ) × ℕ). one.1 < c.args.animals) c.loop-animal.ranked.items (name, k) inv.within c.loop-animal-test.true);
      order = ap (map seen) c.in_ok-push.ensures.items
          ∙ (map-append seen c.loop-animal.ranked.items ((name, k) ∷ []) ∙ (ap (λ l. l ++ (k, name.now) ∷ []) inv.order ∙ numbered-push names k name.now within is));
    }

pub returns-clause-within : goal.returns-clause-within
returns-clause-within c =
    All-permutation (λ (one : Bor (List ℕ) × ℕ). one.1 < c.args.animals) c.loop-animal.ranked.items c.sort.new.self.items c.in_ok-sort.ensures.permutation c.loop-animal.invariant.within

pub returns-clause-order : goal.returns-clause-order
returns-clause-order c =
    let names = map name_of c.args.split.now.files.items in
    let long = length-map c.args.split.now.files.items name_of in
    let all : map seen c.loop-animal.ranked.items ≡ enumerate_from 0 names =
    c.loop-animal.invariant.order ∙ ap (enumerate_from 0) (take_all c.loop-animal.animal names (omega (arith, long, c.loop-animal-test.false, c.requires))) in
    record {
      are_all = subst (λ l. IsPermutation l (map seen c.sort.new.self.items)) all
          (IsPermutation-map seen c.loop-animal.ranked.items c.sort.new.self.items c.in_ok-sort.ensures.permutation);
      are_sorted = IsSortedBy-map seen (λ one other. is_lt (name_cmp one other)) c.sort.new.self.items c.in_ok-sort.ensures.sorted;
    }
