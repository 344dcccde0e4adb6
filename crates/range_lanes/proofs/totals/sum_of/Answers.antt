use Rattle.std.proofs.Common.{◌≡◌, ◌+◌, ◌-◌, ◌*◌, ◌/◌, ◌≤◌, ◌+ℤ◌, length, subst, sym, ◌∙◌, ap, take, drop, arith, length-drop}
use lib.Lanes.{zip2, chunk, Each1}
use Rattle.std.proofs.lemmas.Int.{ints}
use Rattle.std.proofs.lemmas.List.{take_all}
use Rattle.std.proofs.lemmas.Simd.{length-zip2, length-chunk}
use Rattle.range_lanes.specs.Totals.{IsSumOf, total}
use Rattle.range_lanes.proofs.Signed.{each_zip}
use Rattle.range_lanes.proofs.LaneSums.{group_within, group_sums, sum_bounds, sum_more, sum_step, total_is, total_fits, total_asks, total_back}
use Rattle.range_lanes.proofs.totals.sum_of.Goals as goal

pub plus-partial-requires-clause-right : goal.plus-partial-requires-clause-right
plus-partial-requires-clause-right c = rw c.load.ensures (group_within c.args.coordinates.now _ c.requires.limits)

pub loop-group-preserved : goal.loop-group-preserved
loop-group-preserved c =
    let xs = c.args.coordinates.now in
    let at = 8 * c.loop-group.group in
    let room : at + 8 ≤ length xs = omega arith in
    let eight = length-chunk at 8 xs room in
    let e = c.plus-partial.ensures ∙ ap (zip2 ◌+ℤ◌ c.loop-group.partial) c.load.ensures in
    let next : at + 8 ≡ 8 * (c.loop-group.group + 1) = omega arith in
    record {
      eight = ap length e ∙ length-zip2 ◌+ℤ◌ c.loop-group.partial (chunk at 8 xs) (c.loop-group.invariant.eight ∙ sym eight) ∙ c.loop-group.invariant.eight;
      summed = ap total e ∙ sum_more xs c.loop-group.partial at (c.loop-group.invariant.eight ∙ sym eight) c.loop-group.invariant.summed
          ∙ ap (λ n. total (take n xs)) next;
      small = subst (Each1 (IsSumOf (c.loop-group.group + 1))) (sym e)
          (each_zip ◌+ℤ◌ (IsSumOf c.loop-group.group) (IsSumOf 1) (IsSumOf (c.loop-group.group + 1)) (sum_step c.loop-group.group) c.loop-group.partial
          (chunk at 8 xs) c.loop-group.invariant.small (group_sums xs at c.requires.limits));
    }

pub overflow_add-result : goal.overflow_add-result
overflow_add-result c =
    let xs = c.args.coordinates.now in
    let whole = length xs / 8 in
    let ended : c.loop-group.group ≡ whole = omega arith in
    let ea = c.plain_sum.ensures ∙ ap total c.to_array.ensures ∙ c.loop-group.invariant.summed ∙ ap (λ b. total (take (8 * b) xs)) ended in
    let eb = c.plain_sum-2.ensures ∙ ap total (take_all (length xs - 8 * whole) (drop (8 * whole) xs) (omega (arith, length-drop (8 * whole) xs))) in
    let e = total_is (8 * whole) xs c.plain_sum.result c.plain_sum-2.result c.requires.few c.requires.limits ea eb in
    rw e (total_fits xs c.requires.few c.requires.limits)

pub overflow_cast-result : goal.overflow_cast-result
overflow_cast-result c =
    let xs = c.args.coordinates.now in
    let whole = length xs / 8 in
    let ended : c.loop-group.group ≡ whole = omega arith in
    let ea = c.plain_sum.ensures ∙ ap total c.to_array.ensures ∙ c.loop-group.invariant.summed ∙ ap (λ b. total (take (8 * b) xs)) ended in
    let eb = c.plain_sum-2.ensures ∙ ap total (take_all (length xs - 8 * whole) (drop (8 * whole) xs) (omega (arith, length-drop (8 * whole) xs))) in
    let e = total_is (8 * whole) xs c.plain_sum.result c.plain_sum-2.result c.requires.few c.requires.limits ea eb in
    rw e (total_asks xs c.requires.few c.requires.limits)

pub returns-clause-value : goal.returns-clause-value
returns-clause-value c =
    let xs = c.args.coordinates.now in
    let whole = length xs / 8 in
    let ended : c.loop-group.group ≡ whole = omega arith in
    let ea = c.plain_sum.ensures ∙ ap total c.to_array.ensures ∙ c.loop-group.invariant.summed ∙ ap (λ b. total (take (8 * b) xs)) ended in
    let eb = c.plain_sum-2.ensures ∙ ap total (take_all (length xs - 8 * whole) (drop (8 * whole) xs) (omega (arith, length-drop (8 * whole) xs))) in
    let e = total_is (8 * whole) xs c.plain_sum.result c.plain_sum-2.result c.requires.few c.requires.limits ea eb in
    rw e (total_back xs c.requires.few c.requires.limits)

pub returns-clause-bound : goal.returns-clause-bound
returns-clause-bound c =
    let value = returns-clause-value c in
    let bounds = sum_bounds c.args.coordinates.now c.requires.limits in
    omega (arith, ints)
