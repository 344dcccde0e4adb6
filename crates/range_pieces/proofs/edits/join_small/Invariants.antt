use Rattle.std.proofs.Common.{◌≡◌, ◌+◌, length}
use Rattle.range_pieces.specs.Pieces.{IsCut, all_points}
use Rattle.range_pieces.proofs.edits.join_small.Given as goal

abbrev pub invariant-loop-at : goal.invariant-loop-at
invariant-loop-at g l =
    IsCut l.shelf.pieces l.lo l.at
    × (all_points l.shelf.pieces ≡ all_points l.initial.shelf.pieces)
    × (length l.shelf.pieces + l.shelf.free ≡ length l.initial.shelf.pieces + l.initial.shelf.free)

abbrev pub decreases-loop-at : goal.decreases-loop-at
decreases-loop-at g l = l.at
