use Rattle.std.proofs.Common.{◌∙◌, sym, ap, subst, ℕ, ◌+◌, set, arith}
use Rattle.range_lemmas.proofs.Indices.{replaced_length}
use Rattle.range_pieces.specs.Pieces.{IsCut, piece, all_points, exchange}
use Rattle.range_pieces.specs.Shelf.{Shelved}
use Rattle.range_pieces.proofs.PieceCuts.{cut_grow, cut_set}
use Rattle.range_pieces.proofs.Joins.{joined_put}
use Rattle.range_pieces.proofs.edits.replace_within.Goals as goal

pub join_small-requires : goal.join_small-requires
join_small-requires g c =
    let bs = c.args.shelf.now.pieces in
    let i = c.args.i in
    let b = exchange (piece bs i) c.args.p c.args.from c.args.to in
    let size = replaced_length (piece bs i) c.args.p c.args.from c.args.to (omega arith) c.requires.within in
    let top = c.requires.cut.bound i c.requires.piece in
    subst (λ (v : Shelved). IsCut v.pieces c.saturating_sub.result (i + 1)) (sym c.replace.ensures)
    (subst (λ (lo : ℕ). IsCut (set bs i b) lo (i + 1)) (sym c.saturating_sub.ensures)
    (cut_set bs i b c.requires.piece (omega (arith, size, c.requires.within)) (omega (arith, size, top)) c.requires.cut))

pub returns-then-from-to-clause-points : goal.returns-then-from-to-clause-points
returns-then-from-to-clause-points g c =
    c.join_small.ensures.points
    ∙ ap (λ (v : Shelved). all_points v.pieces) c.replace.ensures
    ∙ joined_put c.args.shelf.now.pieces c.args.i c.args.from c.args.to c.args.p c.requires.piece (omega (arith, c.requires.within)) c.requires.within

pub returns-else-from-to-clause-points : goal.returns-else-from-to-clause-points
returns-else-from-to-clause-points g c =
    ap (λ (v : Shelved). all_points v.pieces) c.replace.ensures
    ∙ joined_put c.args.shelf.now.pieces c.args.i c.args.from c.args.to c.args.p c.requires.piece (omega (arith, c.requires.within)) c.requires.within

pub returns-else-from-to-clause-cut : goal.returns-else-from-to-clause-cut
returns-else-from-to-clause-cut g c =
    let bs = c.args.shelf.now.pieces in
    let i = c.args.i in
    let b = exchange (piece bs i) c.args.p c.args.from c.args.to in
    let size = replaced_length (piece bs i) c.args.p c.args.from c.args.to (omega arith) c.requires.within in
    let top = c.requires.cut.bound i c.requires.piece in
    subst (λ (v : Shelved). IsCut v.pieces 0 0) (sym c.replace.ensures)
    (cut_grow bs i b 0 0 c.requires.piece (omega (arith, size)) (omega (arith, size, top)) c.requires.cut)
