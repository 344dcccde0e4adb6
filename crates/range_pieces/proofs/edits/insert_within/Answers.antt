use Rattle.std.proofs.Common.{◌≡◌, ◌∙◌, sym, ap, subst, ℕ, ◌+◌, ◌-◌, ◌≤◌, length, set, List, arith}
use Rattle.range_plane.specs.Plane.{Position}
use Rattle.range_lemmas.proofs.Indices.{replaced_length}
use Rattle.range_pieces.specs.Pieces.{IsCut, piece, piece_size, all_points, offset, exchange}
use Rattle.range_pieces.specs.Shelf.{Shelved}
use Rattle.range_pieces.proofs.PieceCuts.{IsHalf, cut_grow, cut_split, free_left, halved}
use Rattle.range_pieces.proofs.Joins.{joined_put, joined_split}
use Rattle.range_pieces.proofs.edits.insert_within.Goals as goal

pub returns-then-len_of-lt-PIECE_SIZE-clause-points : goal.returns-then-len_of-lt-PIECE_SIZE-clause-points
returns-then-len_of-lt-PIECE_SIZE-clause-points g c =
    ap (λ (v : Shelved). all_points v.pieces) c.insert.ensures
    ∙ joined_put c.args.shelf.now.pieces c.args.i c.args.index c.args.index c.args.p c.requires.piece c.requires.within c.requires.within

pub returns-then-len_of-lt-PIECE_SIZE-clause-cut : goal.returns-then-len_of-lt-PIECE_SIZE-clause-cut
returns-then-len_of-lt-PIECE_SIZE-clause-cut g c =
    let bs = c.args.shelf.now.pieces in
    let i = c.args.i in
    let size = replaced_length (piece bs i) c.args.p c.args.index c.args.index (omega arith) c.requires.within in
    subst (λ (v : Shelved). IsCut v.pieces 0 0) (sym c.insert.ensures)
    (cut_grow bs i (exchange (piece bs i) c.args.p c.args.index c.args.index) 0 0 c.requires.piece (omega (arith, size))
    (omega (arith, size, c.len_of.ensures.value)) c.requires.cut)

pub split-requires-clause-room : goal.split-requires-clause-room
split-requires-clause-room g c =
    let bs = c.args.shelf.now.pieces in
    let full : length (piece bs c.args.i) ≡ piece_size = omega (arith, c.len_of.ensures.value, c.requires.cut.bound c.args.i c.requires.piece) in
    free_left bs c.args.shelf.now.free c.args.i c.requires.cut c.requires.room (λ _. (c.requires.piece, full))

pub insert-requires-2-clause-within : goal.insert-requires-2-clause-within
insert-requires-2-clause-within g c =
    let bs = c.args.shelf.now.pieces in
    let i = c.args.i in
    let M = c.split.new.self.pieces in
    let j = c.in_halves-half.result.0 in
    let at = c.in_halves-half.result.1 in
    let top : length (piece bs i) ≤ piece_size = c.requires.cut.bound i c.requires.piece in
    let full : length (piece bs i) ≡ piece_size = omega (arith, c.len_of.ensures.value, c.if-len_of-lt-PIECE_SIZE.false) in
    let in_half : IsHalf bs M i c.args.index j at = halved bs M i c.args.index j at c.requires.piece full
    (omega (arith, c.requires.within)) c.split.ensures.pieces c.in_halves-half.ensures in
    in_half.within

pub insert-requires-2-clause-room : goal.insert-requires-2-clause-room
insert-requires-2-clause-room g c =
    let bs = c.args.shelf.now.pieces in
    let i = c.args.i in
    let M = c.split.new.self.pieces in
    let j = c.in_halves-half.result.0 in
    let at = c.in_halves-half.result.1 in
    let top : length (piece bs i) ≤ piece_size = c.requires.cut.bound i c.requires.piece in
    let full : length (piece bs i) ≡ piece_size = omega (arith, c.len_of.ensures.value, c.if-len_of-lt-PIECE_SIZE.false) in
    let in_half : IsHalf bs M i c.args.index j at = halved bs M i c.args.index j at c.requires.piece full
    (omega (arith, c.requires.within)) c.split.ensures.pieces c.in_halves-half.ensures in
    in_half.room

pub join_small-requires : goal.join_small-requires
join_small-requires g c =
    let bs = c.args.shelf.now.pieces in
    let i = c.args.i in
    let M = c.split.new.self.pieces in
    let j = c.in_halves-half.result.0 in
    let at = c.in_halves-half.result.1 in
    let top : length (piece bs i) ≤ piece_size = c.requires.cut.bound i c.requires.piece in
    let full : length (piece bs i) ≡ piece_size = omega (arith, c.len_of.ensures.value, c.if-len_of-lt-PIECE_SIZE.false) in
    let in_half : IsHalf bs M i c.args.index j at = halved bs M i c.args.index j at c.requires.piece full
    (omega (arith, c.requires.within)) c.split.ensures.pieces c.in_halves-half.ensures in
    let b = exchange (piece M j) c.args.p at at in
    let size = replaced_length (piece M j) c.args.p at at (omega arith) in_half.within in
    let cut : IsCut M (i - 1) (i + 2) = subst (λ (N : List (List Position)). IsCut N (i - 1) (i + 2)) (sym c.split.ensures.pieces)
    (cut_split bs i 128 c.requires.piece (omega arith) (omega (arith, full)) c.requires.cut) in
    subst (λ (v : Shelved). IsCut v.pieces c.saturating_sub.result (i + 2)) (sym c.insert-2.ensures)
    (subst (λ (lo : ℕ). IsCut (set M j b) lo (i + 2)) (sym c.saturating_sub.ensures)
    (cut_grow M j b (i - 1) (i + 2) in_half.piece_is (omega (arith, size)) (omega (arith, size, in_half.room)) cut))

pub returns-clause-points : goal.returns-clause-points
returns-clause-points g c =
    let bs = c.args.shelf.now.pieces in
    let i = c.args.i in
    let M = c.split.new.self.pieces in
    let j = c.in_halves-half.result.0 in
    let at = c.in_halves-half.result.1 in
    let top : length (piece bs i) ≤ piece_size = c.requires.cut.bound i c.requires.piece in
    let full : length (piece bs i) ≡ piece_size = omega (arith, c.len_of.ensures.value, c.if-len_of-lt-PIECE_SIZE.false) in
    let in_half : IsHalf bs M i c.args.index j at = halved bs M i c.args.index j at c.requires.piece full
    (omega (arith, c.requires.within)) c.split.ensures.pieces c.in_halves-half.ensures in
    c.join_small.ensures.points
    ∙ ap (λ (v : Shelved). all_points v.pieces) c.insert-2.ensures
    ∙ joined_put M j at at c.args.p in_half.piece_is in_half.within in_half.within
    ∙ ap (λ (k : ℕ). exchange (all_points M) c.args.p k k) in_half.same
    ∙ ap (λ (L : List Position). exchange L c.args.p (offset bs i + c.args.index) (offset bs i + c.args.index))
    (ap all_points c.split.ensures.pieces ∙ joined_split bs i 128 c.requires.piece)
