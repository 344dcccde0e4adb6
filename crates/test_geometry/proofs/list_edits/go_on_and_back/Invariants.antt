use Rattle.range_pieces.specs.PointList.{Stands}
use Rattle.test_geometry.proofs.list_edits.go_on_and_back.Given as goal

abbrev pub invariant-loop : goal.invariant-loop
invariant-loop g l = Stands l.chain.pieces l.on

abbrev pub invariant-loop-2 : goal.invariant-loop-2
invariant-loop-2 g l = Stands l.chain.pieces l.on
