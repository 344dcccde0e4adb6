use Rattle.std.proofs.Common.{sym, arith}
use Rattle.std.proofs.lemmas.Option.{get_or_from_slice_get, slice_get_within}
use Rattle.range_plane.proofs.Least.{least_all, least_next, least_stays}
use Rattle.range_plane.proofs.plain.least_of.Goals as goal
use Rattle.range_plane.proofs.plain.least_of.Goals.{then-comes_before, else-comes_before}

pub loop-p-init : goal.loop-p-init
loop-p-init c =
    let first = c.in_ok-least.ensures.value in
    let x = c.in_ok-least.field-0.now in
    record {
      member = (0, slice_get_within c.args.points.now 0 x (sym first), get_or_from_slice_get c.args.points.now 0 x x (sym first));
      least = λ k h. absurd (omega arith);
    }

pub loop-p-preserved : goal.loop-p-preserved
loop-p-preserved c = elim c.if-comes_before.branch [
  | then-comes_before w ↦ rw w.least-is (least_next c.args.points.now c.loop-p.p-index c.loop-p.least c.p-item.result c.loop-p.invariant c.loop-p-test.true
      c.p-item.is (rw w.if-comes_before.true at c.comes_before.ensures.yes))
  | else-comes_before w ↦ rw w.least-is (least_stays c.args.points.now c.loop-p.p-index c.loop-p.least c.p-item.result c.loop-p.invariant c.loop-p-test.true
      c.p-item.is (rw w.if-comes_before.false at c.comes_before.ensures.no))
]

pub returns-clause-least : goal.returns-clause-least
returns-clause-least c = least_all c.args.points.now c.loop-p.p-index c.loop-p.least c.loop-p.invariant c.loop-p-test.false
