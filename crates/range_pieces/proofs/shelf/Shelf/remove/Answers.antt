use Rattle.std.proofs.Common.{◌≡◌, ◌∙◌, ap, ℕ, ◌-◌, ◌≤◌, ◌++◌, length, take, drop, [], List, arith, vec_len}
use Rattle.range_plane.specs.Plane.{Position}
use Rattle.range_pieces.specs.Shelf.{Shelved}
use Rattle.range_pieces.proofs.Shelves.{shifted_all}
use Rattle.range_pieces.proofs.shelf.Shelf.remove.Goals as goal

pub returns-after-loop-clause-pieces : goal.returns-after-loop-clause-pieces
returns-after-loop-clause-pieces g c =
    let from = c.args.from in
    let to = c.args.to in
    let old = c.self.inside.pieces.items in
    let moved = c.loop-k.self-inside.pieces.items in
    let same : old ≡ c.args.self.now.pieces = ap (λ (v : Shelved). v.pieces) c.self.view_is in
    let i = c.loop.invariant in
    let n : ℕ = vec_len c.loop-k.self-inside.pieces - (c.loop.counter - from) in
    let low : c.len.result - to ≤ c.loop-k.k = c.loop-k-test.false in
    let high : c.loop-k.k ≤ c.len.result - to = c.loop-k.auto.k-end in
    let last : from ≤ to → c.loop.counter ≤ to = c.loop.auto.counter-end in
    let end : c.loop.counter ≡ to = omega (arith, last c.requires.order) in
    let all : c.loop-k.k ≡ length old - to = omega (arith, c.self.inside.pieces.ok.0) in
    i.0
    ∙ shifted_all [] old moved from to c.loop-k.k n c.requires.order (omega (arith, c.requires.within, ap length same)) all
    (omega (arith, c.requires.within, ap length same, c.self.inside.pieces.ok.0, c.loop-k.invariant.1)) c.loop-k.invariant.0
    ∙ ap (λ (ys : List (List Position)). take from ys ++ drop to ys) same
