use Rattle.std.proofs.Common.{◌≡◌, ◌∙◌, sym, ap, subst, ℕ, ◌+◌, ◌∷◌, ◌++◌, [], take, drop, set, List, arith}
use Rattle.range_plane.specs.Plane.{Position}
use Rattle.range_pieces.specs.Pieces.{IsCut, piece, all_points}
use Rattle.range_pieces.specs.Shelf.{Shelved}
use Rattle.std.proofs.lemmas.List.{get_or-set_other}
use Rattle.range_pieces.proofs.PieceCuts.{cut_across, set_across}
use Rattle.range_pieces.proofs.Joins.{joined_across}
use Rattle.range_pieces.proofs.edits.replace_across.Goals as goal

pub join_small-requires : goal.join_small-requires
join_small-requires g c =
    let bs = c.args.shelf.now.pieces in
    let i = c.args.i in
    let k = c.args.k in
    let x = take c.args.from (piece bs i) ++ c.args.p ∷ [] in
    let other : piece (set bs i x) k ≡ piece bs k = get_or-set_other bs i k x [] (λ e. omega (arith, e)) in
    let list : c.remove.new.self.pieces ≡ take i bs ++ x ∷ drop c.args.to (piece bs k) ∷ drop (k + 1) bs =
    c.remove.ensures.pieces
    ∙ ap (λ (v : Shelved). take (i + 1) v.pieces ++ drop k v.pieces) c.drop_first.ensures
    ∙ ap (λ (v : Shelved). let bs' = set v.pieces k (drop c.args.to (piece v.pieces k)) in take (i + 1) bs' ++ drop k bs') c.end_with.ensures
    ∙ set_across bs i k x (drop c.args.to (piece (set bs i x) k)) c.requires.order c.requires.piece
    ∙ ap (λ (b : List Position). take i bs ++ x ∷ drop c.args.to b ∷ drop (k + 1) bs) other in
    subst (λ (M : List (List Position)). IsCut M c.saturating_sub.result (i + 2)) (sym list)
    (subst (λ (lo : ℕ). IsCut (take i bs ++ x ∷ drop c.args.to (piece bs k) ∷ drop (k + 1) bs) lo (i + 2)) (sym c.saturating_sub.ensures)
    (cut_across bs i k c.args.from c.args.to c.args.p c.requires.order c.requires.piece c.requires.from c.requires.to c.requires.cut))

pub returns-clause-points : goal.returns-clause-points
returns-clause-points g c =
    let bs = c.args.shelf.now.pieces in
    let i = c.args.i in
    let k = c.args.k in
    let x = take c.args.from (piece bs i) ++ c.args.p ∷ [] in
    let other : piece (set bs i x) k ≡ piece bs k = get_or-set_other bs i k x [] (λ e. omega (arith, e)) in
    let list : c.remove.new.self.pieces ≡ take i bs ++ x ∷ drop c.args.to (piece bs k) ∷ drop (k + 1) bs =
    c.remove.ensures.pieces
    ∙ ap (λ (v : Shelved). take (i + 1) v.pieces ++ drop k v.pieces) c.drop_first.ensures
    ∙ ap (λ (v : Shelved). let bs' = set v.pieces k (drop c.args.to (piece v.pieces k)) in take (i + 1) bs' ++ drop k bs') c.end_with.ensures
    ∙ set_across bs i k x (drop c.args.to (piece (set bs i x) k)) c.requires.order c.requires.piece
    ∙ ap (λ (b : List Position). take i bs ++ x ∷ drop c.args.to b ∷ drop (k + 1) bs) other in
    c.join_small.ensures.points
    ∙ ap all_points list
    ∙ joined_across bs i k c.args.from c.args.to c.args.p c.requires.order c.requires.piece (omega (arith, c.requires.from)) (omega (arith, c.requires.to))
