use Rattle.std.proofs.Common.{◌≡◌, ◌∙◌, sym, ap, subst, ℕ, ◌+◌, ◌-◌, ◌∷◌, ◌<◌, [], length, List, arith}
use Rattle.range_plane.specs.Plane.{Position}
use Rattle.range_pieces.specs.Pieces.{IsCut, piece, piece_size, all_points, offset, exchange}
use Rattle.range_pieces.specs.Shelf.{Shelved}
use Rattle.range_pieces.proofs.PieceCuts.{cut_between, free_between}
use Rattle.range_pieces.proofs.Joins.{joined_open, joined_put, offset_more}
use Rattle.range_pieces.proofs.edits.insert_between.Goals.{then-i-gt0+else-end-lt-PIECE_SIZE, else-i-gt0}
use Rattle.range_pieces.proofs.edits.insert_between.Goals.{else-i-count-via-then-i-count+else-len_of-lt-PIECE_SIZE, else-i-count-via-else-i-count}
use Rattle.range_pieces.proofs.edits.insert_between.Goals as goal

pub returns-then-end-lt-PIECE_SIZE-clause-points : goal.returns-then-end-lt-PIECE_SIZE-clause-points
returns-then-end-lt-PIECE_SIZE-clause-points g c =
    let bs = c.args.shelf.now.pieces in
    let i = c.args.i in
    let p = c.args.p in
    let end = c.len_of-end.result in
    let value = c.len_of-end.ensures.value in
    let within : i - 1 < length bs = omega arith in
    let index : offset bs (i - 1) + end ≡ offset bs i = omega (
      arith,
      offset_more bs (i - 1) within,
      value,
      ap (offset bs) (let e : i - 1 + 1 ≡ i = omega arith in e),
    ) in
    ap (λ (v : Shelved). all_points v.pieces) c.insert.ensures
    ∙ joined_put bs (i - 1) end end p within (omega (arith, value)) (omega (arith, value))
    ∙ ap (λ (k : ℕ). exchange (all_points bs) p k k) index

pub returns-then-len_of-lt-PIECE_SIZE-clause-points : goal.returns-then-len_of-lt-PIECE_SIZE-clause-points
returns-then-len_of-lt-PIECE_SIZE-clause-points g c =
    let bs = c.args.shelf.now.pieces in
    let i = c.args.i in
    ap (λ (v : Shelved). all_points v.pieces) c.insert-then-len_of-lt-PIECE_SIZE.ensures
    ∙ joined_put bs i 0 0 c.args.p (omega arith) (omega arith) (omega arith)
    ∙ ap (λ (k : ℕ). exchange (all_points bs) c.args.p k k) (let e : offset bs i + 0 ≡ offset bs i = omega arith in e)

pub open-requires-clause-room : goal.open-requires-clause-room
open-requires-clause-room g c =
    let bs = c.args.shelf.now.pieces in
    let i = c.args.i in
    let below : 0 < i → length (piece bs (i - 1)) ≡ piece_size =
    λ h. elim c.if-i-gt0.branch [
      | then-i-gt0+else-end-lt-PIECE_SIZE w ↦ omega (arith, w.len_of-end.ensures.value)
      | else-i-gt0 w ↦ absurd (omega (arith, w.if-i-gt0.false, h))
    ] in
    let above : i < length bs → length (piece bs i) ≡ piece_size =
    λ h. elim c.else-i-count.branch [
      | else-i-count-via-then-i-count+else-len_of-lt-PIECE_SIZE w ↦ omega (arith, w.len_of.ensures.value)
      | else-i-count-via-else-i-count w ↦ absurd (omega (arith, w.if-i-count.false, h))
    ] in
    free_between bs c.args.shelf.now.free i c.requires.cut c.requires.within c.requires.room below above

pub returns-clause-points : goal.returns-clause-points
returns-clause-points g c = ap all_points c.open.ensures.pieces ∙ joined_open c.args.shelf.now.pieces c.args.i c.args.p

pub returns-clause-cut : goal.returns-clause-cut
returns-clause-cut g c =
    let bs = c.args.shelf.now.pieces in
    let i = c.args.i in
    let below : 0 < i → length (piece bs (i - 1)) ≡ piece_size =
    λ h. elim c.if-i-gt0.branch [
      | then-i-gt0+else-end-lt-PIECE_SIZE w ↦ omega (arith, w.len_of-end.ensures.value)
      | else-i-gt0 w ↦ absurd (omega (arith, w.if-i-gt0.false, h))
    ] in
    let above : i < length bs → length (piece bs i) ≡ piece_size =
    λ h. elim c.else-i-count.branch [
      | else-i-count-via-then-i-count+else-len_of-lt-PIECE_SIZE w ↦ omega (arith, w.len_of.ensures.value)
      | else-i-count-via-else-i-count w ↦ absurd (omega (arith, w.if-i-count.false, h))
    ] in
    subst (λ (M : List (List Position)). IsCut M 0 0) (sym c.open.ensures.pieces)
    (cut_between bs i (c.args.p ∷ []) c.requires.within (omega arith) (omega arith) below above c.requires.cut)
