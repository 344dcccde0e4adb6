use Rattle.std.proofs.Common.{rules}
use Rattle.range_estimator.proofs.EmptyTable.{none_is_sound}
use Rattle.range_estimator.proofs.estimator.Estimator.new.Goals as goal

pub returns-clause-value : goal.returns-clause-value
returns-clause-value g c = search rules

pub returns-clause-estimate : goal.returns-clause-estimate
returns-clause-estimate g c =
    (none_is_sound record { columns = c.new.result; rows = c.new-2.result; hull = c.new-3.result } c.new-2.ensures.items c.new.ensures.points
    c.new-3.ensures).estimate

pub invariant_of-result : goal.invariant_of-result
invariant_of-result g c =
    let sound = none_is_sound record { columns = c.new.result; rows = c.new-2.result; hull = c.new-3.result } c.new-2.ensures.items c.new.ensures.points
    c.new-3.ensures in
    (sound, search rules, search rules)
