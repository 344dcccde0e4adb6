use Rattle.std.proofs.Common.{take}
use Rattle.std.specs.List.{AllZip}
use Rattle.range_stats.specs.Percent.{IsFirstRow, IsHullOf}
use Rattle.range_stats.proofs.rankings.Ranking.rows.Given as goal

abbrev pub invariant-loop-level : goal.invariant-loop-level
invariant-loop-level g l = record {
  hull : IsHullOf (take l.done l.self) l.hull;
  rows : AllZip (IsFirstRow l.self) (take l.level-index l.levels) l.rows.items;
}
