use Rattle.std.proofs.Common.{◌≡◌}
use Rattle.range_pieces.specs.PointList.{Stands, index}
use Rattle.test_geometry.proofs.list_edits.cursor_at.Given as goal

abbrev pub invariant-loop : goal.invariant-loop
invariant-loop l = Stands l.chain.pieces l.c × (index l.chain.pieces l.c ≡ l.counter)
