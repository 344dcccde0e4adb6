use Rattle.std.proofs.Common.{◌≡◌, ◌+◌, ◌-◌, ◌≤◌, [], take, vec_len, vec_capacity}
use Rattle.range_pieces.proofs.Shelves.{IsShifted}
use Rattle.range_pieces.proofs.shelf.Shelf.remove.Given as goal

abbrev pub invariant-loop-k : goal.invariant-loop-k
invariant-loop-k g l =
    IsShifted [] l.initial.self-inside.pieces.items l.self-inside.pieces.items l.from l.to l.k
    × (vec_len l.self-inside.pieces ≡ vec_len l.initial.self-inside.pieces)
    × (vec_len l.self-inside.free ≡ vec_len l.initial.self-inside.free)
    × (vec_capacity l.self-inside.pieces ≡ vec_capacity l.initial.self-inside.pieces)
    × (vec_capacity l.self-inside.free ≡ vec_capacity l.initial.self-inside.free)

abbrev pub invariant-loop : goal.invariant-loop
invariant-loop g l =
    (l.self-inside.pieces.items ≡ take (vec_len l.initial.self-inside.pieces - (l.counter - l.from)) l.initial.self-inside.pieces.items)
    × (vec_len l.self-inside.pieces + (l.counter - l.from) ≡ vec_len l.initial.self-inside.pieces)
    × (vec_len l.self-inside.free + l.from ≡ vec_len l.initial.self-inside.free + l.counter)
    × (vec_capacity l.initial.self-inside.pieces ≤ vec_capacity l.self-inside.pieces)
    × (vec_capacity l.initial.self-inside.free ≤ vec_capacity l.self-inside.free)
