use Rattle.std.proofs.Common.{arith}
use Rattle.range_lanes.proofs.Taken.{AreTaken, taken_members, taken_polygon}
use Rattle.range_lanes.proofs.inner.inner_of.Goals as goal

taken : (c : goal.After-loop-i) → AreTaken c.args.corners.now c.loop-i.inner
taken c = record {
  many = c.requires.many;
  count = c.loop-i.invariant.count;
  each = λ i d few. c.loop-i.invariant.each i d (omega (arith, few, c.loop-i-test.false));
}

pub returns-clause-polygon : goal.returns-clause-polygon
returns-clause-polygon c = taken_polygon c.args.corners.now c.loop-i.inner (taken c) c.requires.polygon

pub returns-clause-within : goal.returns-clause-within
returns-clause-within c = taken_members c.args.corners.now c.loop-i.inner (taken c)
