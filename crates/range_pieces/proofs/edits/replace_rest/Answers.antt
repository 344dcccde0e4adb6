use Rattle.std.proofs.Common.{◌≡◌, ◌∙◌, sym, ap, subst, ℕ, ◌+◌, ◌∷◌, ◌++◌, [], length, take, drop, List, arith}
use Rattle.range_plane.specs.Plane.{Position}
use Rattle.range_pieces.specs.Pieces.{IsCut, piece, all_points, offset, exchange}
use Rattle.range_pieces.specs.Shelf.{Shelved}
use Rattle.std.proofs.lemmas.List.{length-set}
use Rattle.range_pieces.proofs.PieceCuts.{cut_to_end, set_to_end}
use Rattle.range_pieces.proofs.Joins.{joined_to_end, offset_all}
use Rattle.range_pieces.proofs.edits.replace_rest.Goals as goal

pub join_small-requires : goal.join_small-requires
join_small-requires g c =
    let bs = c.args.shelf.now.pieces in
    let i = c.args.i in
    let x = take c.args.from (piece bs i) ++ c.args.p ∷ [] in
    let all : c.count.result ≡ length bs = c.count.ensures ∙ ap (λ (v : Shelved). length v.pieces) c.end_with.ensures ∙ length-set bs i x in
    let list : c.remove.new.self.pieces ≡ take i bs ++ x ∷ [] =
    c.remove.ensures.pieces
    ∙ ap (λ (v : Shelved). take (i + 1) v.pieces ++ drop c.count.result v.pieces) c.end_with.ensures
    ∙ set_to_end bs i c.count.result x c.requires.piece all in
    subst (λ (M : List (List Position)). IsCut M c.saturating_sub.result (i + 2)) (sym list)
    (subst (λ (lo : ℕ). IsCut (take i bs ++ x ∷ []) lo (i + 2)) (sym c.saturating_sub.ensures)
    (cut_to_end bs i c.args.from c.args.p c.requires.piece c.requires.from c.requires.cut))

pub returns-clause-points : goal.returns-clause-points
returns-clause-points g c =
    let bs = c.args.shelf.now.pieces in
    let i = c.args.i in
    let x = take c.args.from (piece bs i) ++ c.args.p ∷ [] in
    let all : c.count.result ≡ length bs = c.count.ensures ∙ ap (λ (v : Shelved). length v.pieces) c.end_with.ensures ∙ length-set bs i x in
    let list : c.remove.new.self.pieces ≡ take i bs ++ x ∷ [] =
    c.remove.ensures.pieces
    ∙ ap (λ (v : Shelved). take (i + 1) v.pieces ++ drop c.count.result v.pieces) c.end_with.ensures
    ∙ set_to_end bs i c.count.result x c.requires.piece all in
    c.join_small.ensures.points
    ∙ ap all_points list
    ∙ joined_to_end bs i (length bs) c.args.from c.args.p c.requires.piece (omega arith) (omega (arith, c.requires.from))
    ∙ ap (λ (k : ℕ). exchange (all_points bs) c.args.p (offset bs i + c.args.from) k)
    (let e : offset bs (length bs) + 0 ≡ length (all_points bs) = omega (arith, offset_all bs (length bs) (omega arith)) in e)
