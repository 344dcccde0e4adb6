-- What the corners beside a spot are.
use Rattle.std.proofs.Common.{◌≡◌, sym, ap, subst, ◌∙◌, ℕ, ◌-◌, ◌<◌, ◌≤◌, pos, ◌≤ℤ◌, ◌<ℤ◌, inl, inr, List, length, arith, eq-or-lt_of_le, Option, Some, None}
use Rattle.std.proofs.lemmas.Bool.{cases_lt}
use Rattle.std.proofs.lemmas.Option.{none-some, same_Some}
use Rattle.range_plane.specs.Edges.{at}
use Rattle.range_plane.specs.Order.{rank}
use Rattle.range_plane.specs.Plane.{Position}
use Rattle.range_pieces.specs.PointList.{FallsAt}
use Rattle.range_hull.specs.declared.side.Side.{Side}
use Rattle.range_hull.specs.Chain.{bend, LiesWithin}
use Rattle.range_hull.specs.Spot.{IsBeside}
use Rattle.range_hull.proofs.Chains.{inside_within}

-- the corner after a spot is the one at its index
pub after_at : (L : List Position) (k : ℕ) (before after : Option Position) (x : Position) → IsBeside L k before after → k ≤ length L → after ≡ Some x
    → (k < length L) × (x ≡ at L k)
after_at L k before after x b h e =
    elim (eq-or-lt_of_le h) [
      | inl whole ↦ absurd (none-some x (sym (b.last whole) ∙ e))
      | inr less ↦ (less, same_Some x (at L k) (sym e ∙ b.after_is less))
    ]

-- the corner before a spot is the one at the index before it
pub before_at : (L : List Position) (k : ℕ) (before after : Option Position) (x : Position) → IsBeside L k before after → before ≡ Some x → (0 < k)
    × (x ≡ at L (k - 1))
before_at L k before after x b e =
    elim (cases_lt 0 k) [
      | inl more ↦ (more, same_Some x (at L (k - 1)) (sym e ∙ b.before_is more))
      | inr none ↦ absurd (none-some x (sym (b.first (omega (arith, none))) ∙ e))
    ]

-- a spot with no corner before it is the first
pub none_before : (L : List Position) (k : ℕ) (before after : Option Position) → IsBeside L k before after → before ≡ None → k ≡ 0
none_before L k before after b e =
    elim (cases_lt 0 k) [
      | inl more ↦ absurd (none-some (at L (k - 1)) (sym e ∙ b.before_is more))
      | inr none ↦ omega (arith, none)
    ]

-- p falls before x, and does not come after it
pub not_after : (L : List Position) (k : ℕ) (p x : Position) → FallsAt L p k → k < length L → x ≡ at L k → rank p ≤ℤ rank x
not_after L k p x falls less e = subst (λ (y : Position). rank p ≤ℤ rank y) (sym e) (falls.after k (omega arith) less)

-- the bend at p between the corners beside it
pub bend_at : (side : Side) (L : List Position) (k : ℕ) (a p b : Position) → a ≡ at L (k - 1) → b ≡ at L k
    → bend side a p b ≡ bend side (at L (k - 1)) p (at L k)
bend_at side L k a p b e f = ap (λ (x : Position). bend side x p b) e ∙ ap (λ (x : Position). bend side (at L (k - 1)) p x) f

-- p between two corners that do not bend past it
pub between_within : {side : Side} {L : List Position} {p : Position} {k : ℕ} → FallsAt L p k → 0 < k → k < length L → rank p <ℤ rank (at L k)
    → bend side (at L (k - 1)) p (at L k) ≤ℤ pos 0 → LiesWithin side L p
between_within {side} {L} {p} {k} falls more less apart h = inside_within more less (falls.before (k - 1) (omega (arith, more))) apart h
