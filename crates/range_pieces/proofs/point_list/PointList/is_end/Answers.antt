use Rattle.std.proofs.Common.{◌≡◌, ◌∙◌, sym, ap, inl, inr, eq-or-lt_of_le, length}
use Rattle.range_pieces.specs.PointList.{Content}
use Rattle.std.proofs.lemmas.Bool.{OnFalse_from, eq-eqb, eqb-false, eqb-true}
use Rattle.range_pieces.proofs.PieceIndices.{is_last, index_at_end, index_before_end}
use Rattle.range_pieces.proofs.point_list.PointList.is_end.Goals as goal

pub returns-clause-value : goal.returns-clause-value
returns-clause-value g c =
    let bs = c.self.inside.shelf.pieces in
    let same : bs ≡ c.args.self.now.pieces = ap (λ (v : Content). v.pieces) c.self.view_is in
    let n : c.count.result ≡ length c.args.self.now.pieces = c.count.ensures ∙ ap length same in (
      (λ t. index_at_end c.args.self.now.pieces c.args.c c.requires (eqb-true c.args.c.piece c.count.result t ∙ n)),
      (λ e. eq-eqb c.args.c.piece c.count.result (is_last c.args.self.now.pieces c.args.c c.requires e ∙ sym n)),
    )

pub returns-clause-within : goal.returns-clause-within
returns-clause-within g c = OnFalse_from _ _ (λ h.
    let bs = c.self.inside.shelf.pieces in
    let same : bs ≡ c.args.self.now.pieces = ap (λ (v : Content). v.pieces) c.self.view_is in
    let n : c.count.result ≡ length c.args.self.now.pieces = c.count.ensures ∙ ap length same in
    elim (eq-or-lt_of_le c.requires.bound) [
      | inl e ↦ absurd (eqb-false c.args.c.piece c.count.result h (e ∙ sym n))
      | inr l ↦ index_before_end c.args.self.now.pieces c.args.c c.requires l
    ])
