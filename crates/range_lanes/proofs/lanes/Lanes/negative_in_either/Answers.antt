use Rattle.std.proofs.Common.{map, ap, sym, subst, ◌∙◌, w64, FitsSigned}
use Rattle.std.specs.Int.{int_bit_or}
use Rattle.range_lanes.specs.Lanes.{AreLanes, is_not_negative}
use Rattle.range_lanes.proofs.Signed.{lanes_from_each, or_is, or_fits, signs_of_or}
use Rattle.range_lanes.proofs.lanes.Lanes.negative_in_either.Goals as goal

pub invariant_of-result : goal.invariant_of-result
invariant_of-result c =
    let a = c.self.inside.lanes in
    let b = c.other.inside.lanes in
    subst AreLanes (sym (or_is a b c.self.invariant.1 c.other.invariant.1))
    (lanes_from_each (int_bit_or w64) (FitsSigned w64) (FitsSigned w64) or_fits a b c.self.invariant c.other.invariant c.self.invariant.1 c.other.invariant.1)

pub returns : goal.returns
returns c =
    let a = c.self.inside.lanes in
    let b = c.other.inside.lanes in
    rw (← c.self.view_is, ← c.other.view_is)
    (ap (map is_not_negative) (or_is a b c.self.invariant.1 c.other.invariant.1) ∙ signs_of_or a b c.self.invariant.1 c.other.invariant.1)
