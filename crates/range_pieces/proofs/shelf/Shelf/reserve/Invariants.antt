use Rattle.std.proofs.Common.{◌≡◌, ◌+◌, ◌≤◌, vec_len, vec_capacity}
use Rattle.range_pieces.proofs.shelf.Shelf.reserve.Given as goal

abbrev pub invariant-loop : goal.invariant-loop
invariant-loop g l =
    (l.self-inside.pieces.items ≡ l.fn.self.pieces)
    × (vec_len l.self-inside.pieces + vec_len l.self-inside.free ≡ l.counter)
    × (l.fn.self.free ≤ vec_len l.self-inside.free)
    × (l.total ≤ vec_capacity l.self-inside.pieces)
    × (l.total ≤ vec_capacity l.self-inside.free)
