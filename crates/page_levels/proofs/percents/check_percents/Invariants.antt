use Rattle.std.proofs.Common.{All, take}
use Rattle.page_levels.specs.Kept.{IsRowOfFirst}
use Rattle.page_levels.proofs.percents.check_percents.Given as goal

abbrev pub invariant-loop-row : goal.invariant-loop-row
invariant-loop-row l = All (IsRowOfFirst l.ranked) (take l.row-index l.rows)
