use Rattle.std.proofs.Common.{◌≡◌, ◌∙◌, ap, subst, ℕ, ◌+◌, ◌-◌, ◌<◌, inl, inr, length, List, arith}
use Rattle.range_plane.specs.Plane.{Position}
use Rattle.range_pieces.specs.Pieces.{IsCut, piece, offset}
use Rattle.range_pieces.specs.PointList.{Content}
use Rattle.std.proofs.lemmas.Bool.{cases_lt}
use Rattle.range_pieces.proofs.Joins.{offset_more}
use Rattle.range_pieces.proofs.PieceIndices.{index_within}
use Rattle.range_pieces.proofs.point_list.PointList.previous.Goals as goal

pub returns-else-c-gt0-clause-index : goal.returns-else-c-gt0-clause-index
returns-else-c-gt0-clause-index g c =
    let bs = c.self.inside.shelf.pieces in
    let same : bs ≡ c.args.self.now.pieces = ap (λ (v : Content). v.pieces) c.self.view_is in
    let now = c.args.self.now.pieces in
    let s = c.requires.stands in
    let k : ℕ = c.args.c.piece in
    let positive : 0 < k = elim (cases_lt 0 k) [
      | inl l ↦ l
      | inr z ↦ absurd
          (omega (arith, z, c.requires.within, c.if-c-gt0.false, ap (offset now) (let e : k ≡ 0 = omega (arith, z) in e)))
    ] in
    let within : k - 1 < length now = omega (arith, positive, s.bound) in
    let size : c.len_of.result ≡ length (piece now (k - 1)) = c.len_of.ensures.value ∙ ap (λ (xs : List (List Position)). length (piece xs (k - 1))) same in
    let some : 0 < length (piece now (k - 1)) = (subst (λ (xs : List (List Position)). IsCut xs 0 0) same c.self.invariant.cut).filled (k - 1) within in
    omega (arith, offset_more now (k - 1) within, size, some, c.if-c-gt0.false, ap (offset now) (let e : k - 1 + 1 ≡ k = omega (arith, positive) in e))

pub returns-then-c-gt0-clause-within : goal.returns-then-c-gt0-clause-within
returns-then-c-gt0-clause-within g c = omega (arith, index_within c.args.self.now.pieces c.args.c c.requires.stands, c.if-c-gt0.true)

pub returns-else-c-gt0-clause-within : goal.returns-else-c-gt0-clause-within
returns-else-c-gt0-clause-within g c = omega (arith, index_within c.args.self.now.pieces c.args.c c.requires.stands, returns-else-c-gt0-clause-index g c)
