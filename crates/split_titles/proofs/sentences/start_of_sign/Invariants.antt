use Rattle.std.proofs.Common.{◌≤◌}
use Rattle.split_titles.proofs.sentences.start_of_sign.Given as goal

abbrev pub invariant-loop-at : goal.invariant-loop-at
invariant-loop-at l = l.seen ≤ l.at
