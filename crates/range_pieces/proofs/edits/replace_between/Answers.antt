use Rattle.std.proofs.Common.{◌≡◌, ◌∙◌, ap, ℕ, ◌+◌, ◌≤◌, inl, inr, length, arith}
use Rattle.range_pieces.specs.Pieces.{piece, all_points, offset, exchange}
use Rattle.range_pieces.specs.PointList.{index}
use Rattle.std.proofs.Common.{eq-or-lt_of_le}
use Rattle.range_pieces.proofs.PieceIndices.{stand_in_order}
use Rattle.range_pieces.proofs.edits.replace_between.Goals as goal

pub replace_within-requires-clause-piece : goal.replace_within-requires-clause-piece
replace_within-requires-clause-piece g c =
    let bs = c.args.shelf.now.pieces in
    let from = c.args.from in
    let to = c.args.to in
    let same : (from.piece ≡ to.piece) × (from.within ≤ to.within) =
    elim (stand_in_order bs from to c.requires.from c.requires.to c.requires.order) [ inl l ↦ absurd (omega (arith, l, c.if-from-to.false)) | inr e ↦ e ] in
    elim (eq-or-lt_of_le c.requires.to.bound) [ inl e ↦ absurd (omega (arith, c.requires.to.at_end e, c.if-from-to-2.true)) | inr l ↦ omega (arith, l, same.0) ]

pub replace_within-requires-clause-within : goal.replace_within-requires-clause-within
replace_within-requires-clause-within g c =
    let bs = c.args.shelf.now.pieces in
    let from = c.args.from in
    let to = c.args.to in
    let same : (from.piece ≡ to.piece) × (from.within ≤ to.within) =
    elim (stand_in_order bs from to c.requires.from c.requires.to c.requires.order) [ inl l ↦ absurd (omega (arith, l, c.if-from-to.false)) | inr e ↦ e ] in
    let size : length (piece bs from.piece) ≡ length (piece bs to.piece) = ap (λ (k : ℕ). length (piece bs k)) same.0 in
    elim (eq-or-lt_of_le c.requires.to.bound) [
      | inl e ↦ absurd (omega (arith, c.requires.to.at_end e, c.if-from-to-2.true))
      | inr l ↦ omega (arith, size, c.requires.to.before_point l)
    ]

pub returns-then-from-to-2-clause-points : goal.returns-then-from-to-2-clause-points
returns-then-from-to-2-clause-points g c =
    let bs = c.args.shelf.now.pieces in
    let from = c.args.from in
    let to = c.args.to in
    let same : (from.piece ≡ to.piece) × (from.within ≤ to.within) =
    elim (stand_in_order bs from to c.requires.from c.requires.to c.requires.order) [ inl l ↦ absurd (omega (arith, l, c.if-from-to.false)) | inr e ↦ e ] in
    c.replace_within.ensures.points ∙ ap (λ (k : ℕ). exchange (all_points bs) c.args.p (index bs from) (offset bs k + to.within)) same.0

pub returns-then-from-eq0-clause-points : goal.returns-then-from-eq0-clause-points
returns-then-from-eq0-clause-points g c =
    let bs = c.args.shelf.now.pieces in
    let from = c.args.from in
    let to = c.args.to in
    let same : (from.piece ≡ to.piece) × (from.within ≤ to.within) =
    elim (stand_in_order bs from to c.requires.from c.requires.to c.requires.order) [ inl l ↦ absurd (omega (arith, l, c.if-from-to.false)) | inr e ↦ e ] in
    let here : offset bs from.piece ≡ index bs from = omega (arith, c.if-from-eq0.true) in
    let there : offset bs from.piece ≡ index bs to = omega (arith, ap (offset bs) same.0, same.1, c.if-from-to-2.false, c.if-from-eq0.true) in
    c.insert_between.ensures.points
    ∙ ap (λ (k : ℕ). exchange (all_points bs) c.args.p k (offset bs from.piece)) here
    ∙ ap (λ (k : ℕ). exchange (all_points bs) c.args.p (index bs from) k) there

pub returns-clause-points : goal.returns-clause-points
returns-clause-points g c =
    let bs = c.args.shelf.now.pieces in
    let from = c.args.from in
    let to = c.args.to in
    let same : (from.piece ≡ to.piece) × (from.within ≤ to.within) =
    elim (stand_in_order bs from to c.requires.from c.requires.to c.requires.order) [ inl l ↦ absurd (omega (arith, l, c.if-from-to.false)) | inr e ↦ e ] in
    let there : index bs from ≡ index bs to = omega (arith, ap (offset bs) same.0, same.1, c.if-from-to-2.false) in
    c.insert_within.ensures.points ∙ ap (λ (k : ℕ). exchange (all_points bs) c.args.p (index bs from) k) there
