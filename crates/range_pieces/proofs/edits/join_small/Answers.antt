use Rattle.std.proofs.Common.{◌≡◌, ◌∙◌, sym, ap, subst, ℕ, ◌+◌, ◌-◌, ◌∷◌, ◌++◌, ◌<◌, ◌≤◌, [], length, List, arith}
use Rattle.range_plane.specs.Plane.{Position}
use Rattle.range_pieces.specs.Pieces.{IsCut, piece, piece_size, all_points}
use Rattle.range_pieces.proofs.PieceCuts.{cut_join, spliced}
use Rattle.range_pieces.proofs.Joins.{joined_join}
use Rattle.range_pieces.proofs.edits.join_small.Goals as goal

pub loop-at-preserved-then-len_of-le-PIECE_SIZE : goal.loop-at-preserved-then-len_of-le-PIECE_SIZE
loop-at-preserved-then-len_of-le-PIECE_SIZE g c =
    let bs = c.loop-at.shelf.pieces in
    let i : ℕ = c.loop-at.at - 1 in
    let inv = c.loop-at.invariant in
    let within : i + 1 < length bs = omega (arith, c.count.ensures, c.if-at-count.true) in
    let fits : length (piece bs i) + length (piece bs (i + 1)) ≤ piece_size = omega (arith, c.len_of.ensures.value, c.len_of-then-at-count.ensures.value) in
    let cut : IsCut bs c.args.lo (i + 1) = subst (λ (k : ℕ). IsCut bs c.args.lo k) (let e : c.loop-at.at ≡ i + 1 = omega arith in e) inv.0 in
    let new = c.join.ensures.pieces in (
      subst (λ (M : List (List Position)). IsCut M c.args.lo i) (sym new) (cut_join bs c.args.lo i (omega arith) within fits cut),
      ap all_points new ∙ joined_join bs i within ∙ inv.1,
      omega (
        arith,
        ap length new,
        (spliced bs ((piece bs i ++ piece bs (i + 1)) ∷ []) i (i + 2) (omega arith) (omega (arith, within))).len,
        c.join.ensures.free,
        inv.2,
        within,
      ),
    )
