use Rattle.std.proofs.Common.{◌≡◌, ◌+◌, ◌-◌, ◌*◌, ◌/◌, ◌≤◌, pos, length, get_or, sym, ◌∙◌, ap, take, drop, fold, arith, to_z, of_z, w64, FitsSigned}
use Rattle.std.proofs.Common.{length-drop, lit<}
use lib.Lanes.{zip2, chunk}
use Rattle.std.specs.Int.{int_max}
use Rattle.std.proofs.lemmas.Int.{to_z-of_z}
use Rattle.std.proofs.lemmas.List.{take_all}
use Rattle.std.proofs.lemmas.Simd.{length-zip2, length-chunk}
use Rattle.range_plane.specs.Plane.{coordinate_limit}
use Rattle.range_lemmas.proofs.Sizes.{kept}
use Rattle.range_lanes.proofs.Choices.{choice_more, choice_parts, max_choice, greatest_from_fold}
use Rattle.range_lanes.proofs.extent.greatest_of.Goals as goal

pub loop-group-preserved : goal.loop-group-preserved
loop-group-preserved c =
    let xs = c.args.coordinates.now in
    let at = 8 * c.loop-group.group in
    let room : at + 8 ≤ length xs = omega arith in
    let same = c.loop-group.invariant.eight ∙ sym (length-chunk at 8 xs room) in
    let e = c.greatest-greatest.ensures ∙ ap (zip2 int_max c.loop-group.greatest) c.load.ensures in
    let next : at + 8 ≡ 8 * (c.loop-group.group + 1) = omega arith in
    let start = to_z w64 (of_z w64 (get_or xs 0 (pos 0))) in
    record {
      eight = ap length e ∙ length-zip2 int_max c.loop-group.greatest (chunk at 8 xs) same ∙ c.loop-group.invariant.eight;
      reached = ap (fold int_max start) e ∙ choice_more int_max max_choice start xs c.loop-group.greatest at same c.loop-group.invariant.reached
          ∙ ap (λ n. fold int_max start (take n xs)) next;
    }

pub returns : goal.returns
returns c =
    let xs = c.args.coordinates.now in
    let whole = length xs / 8 in
    let ended : c.loop-group.group ≡ whole = omega arith in
    let start = to_z w64 (of_z w64 (get_or xs 0 (pos 0))) in
    let reached = c.loop-group.invariant.reached ∙ ap (λ b. fold int_max start (take (8 * b) xs)) ended in
    let fits : FitsSigned w64 c.plain_greatest-greatest.result = record { sfits = c.plain_greatest-greatest.type_inv } in
    let fits_result : FitsSigned w64 c.plain_greatest.result = record { sfits = c.plain_greatest.type_inv } in
    let from_lanes = to_z-of_z w64 c.plain_greatest-greatest.result fits ∙ c.plain_greatest-greatest.ensures ∙ ap (fold int_max start) c.to_array.ensures in
    let rest = take_all (length xs - 8 * whole) (drop (8 * whole) xs) (omega (arith, length-drop (8 * whole) xs)) in
    let e = c.plain_greatest.ensures ∙ ap (fold int_max (to_z w64 (of_z w64 c.plain_greatest-greatest.result))) rest
    ∙ choice_parts int_max max_choice start (to_z w64 (of_z w64 c.plain_greatest-greatest.result)) xs c.loop-group.greatest
    (8 * whole) reached from_lanes in
    rw (to_z-of_z w64 c.plain_greatest.result fits_result)
    (greatest_from_fold xs start c.plain_greatest.result c.requires.some
    (kept coordinate_limit (lit< tt) (get_or xs 0 (pos 0)) (c.requires.limits 0 (pos 0) c.requires.some)) e)
