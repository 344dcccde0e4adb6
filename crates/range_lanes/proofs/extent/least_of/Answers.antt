use Rattle.std.proofs.Common.{◌≡◌, ◌+◌, ◌-◌, ◌*◌, ◌/◌, ◌≤◌, pos, length, get_or, sym, ◌∙◌, ap, take, drop, fold, arith, to_z, of_z, w64, FitsSigned}
use Rattle.std.proofs.Common.{length-drop, lit<}
use lib.Lanes.{zip2, chunk}
use Rattle.std.specs.Int.{int_min}
use Rattle.std.proofs.lemmas.Int.{to_z-of_z}
use Rattle.std.proofs.lemmas.List.{take_all}
use Rattle.std.proofs.lemmas.Simd.{length-zip2, length-chunk}
use Rattle.range_plane.specs.Plane.{coordinate_limit}
use Rattle.range_lemmas.proofs.Sizes.{kept}
use Rattle.range_lanes.proofs.Choices.{choice_more, choice_parts, min_choice, least_from_fold}
use Rattle.range_lanes.proofs.extent.least_of.Goals as goal

pub loop-group-preserved : goal.loop-group-preserved
loop-group-preserved c =
    let xs = c.args.coordinates.now in
    let at = 8 * c.loop-group.group in
    let room : at + 8 ≤ length xs = omega arith in
    let same = c.loop-group.invariant.eight ∙ sym (length-chunk at 8 xs room) in
    let e = c.least-least.ensures ∙ ap (zip2 int_min c.loop-group.least) c.load.ensures in
    let next : at + 8 ≡ 8 * (c.loop-group.group + 1) = omega arith in
    let start = to_z w64 (of_z w64 (get_or xs 0 (pos 0))) in
    record {
      eight = ap length e ∙ length-zip2 int_min c.loop-group.least (chunk at 8 xs) same ∙ c.loop-group.invariant.eight;
      reached = ap (fold int_min start) e ∙ choice_more int_min min_choice start xs c.loop-group.least at same c.loop-group.invariant.reached
          ∙ ap (λ n. fold int_min start (take n xs)) next;
    }

pub returns : goal.returns
returns c =
    let xs = c.args.coordinates.now in
    let whole = length xs / 8 in
    let ended : c.loop-group.group ≡ whole = omega arith in
    let start = to_z w64 (of_z w64 (get_or xs 0 (pos 0))) in
    let reached = c.loop-group.invariant.reached ∙ ap (λ b. fold int_min start (take (8 * b) xs)) ended in
    let fits : FitsSigned w64 c.plain_least-least.result = record { sfits = c.plain_least-least.type_inv } in
    let fits_result : FitsSigned w64 c.plain_least.result = record { sfits = c.plain_least.type_inv } in
    let from_lanes = to_z-of_z w64 c.plain_least-least.result fits ∙ c.plain_least-least.ensures ∙ ap (fold int_min start) c.to_array.ensures in
    let rest = take_all (length xs - 8 * whole) (drop (8 * whole) xs) (omega (arith, length-drop (8 * whole) xs)) in
    let e = c.plain_least.ensures ∙ ap (fold int_min (to_z w64 (of_z w64 c.plain_least-least.result))) rest
    ∙ choice_parts int_min min_choice start (to_z w64 (of_z w64 c.plain_least-least.result)) xs c.loop-group.least (8 * whole) reached from_lanes in
    rw (to_z-of_z w64 c.plain_least.result fits_result)
    (least_from_fold xs start c.plain_least.result c.requires.some
    (kept coordinate_limit (lit< tt) (get_or xs 0 (pos 0)) (c.requires.limits 0 (pos 0) c.requires.some)) e)
