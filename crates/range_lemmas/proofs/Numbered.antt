-- The order of pairs, by the first number and then by the second, as the order of one number.
use Rattle.std.proofs.Common.{◌≡◌, ap, ℕ, ℤ, pos, ◌+ℤ◌, ◌-ℤ◌, ◌*ℤ◌, ◌≤ℤ◌, ◌<ℤ◌, ◌⊎◌, inl, inr, [], ◌∷◌, arith}
use Rattle.std.proofs.lemmas.Int.{by_lt_z}
use Rattle.range_lemmas.proofs.Integers.{linear, nonneg_product}
use Rattle.range_lemmas.proofs.Ring.{var, num, ◌⊖◌, ◌⊗◌, ring}

scaled_gap : (x u b : ℤ) → (x -ℤ u -ℤ pos 1) *ℤ b ≡ x *ℤ b -ℤ u *ℤ b -ℤ b
scaled_gap x u b =
    ring (x ∷ u ∷ b ∷ []) ((var 0 ⊖ var 1 ⊖ num (pos 1)) ⊗ var 2) (var 0 ⊗ var 2 ⊖ var 1 ⊗ var 2 ⊖ var 2) tt

-- one more of the first number counts for more than any second number does
pub by_one_number : (base : ℕ) (x y u v : ℤ) → pos 0 ≤ℤ y → v <ℤ pos base → (x *ℤ pos base +ℤ y) ≤ℤ (u *ℤ pos base +ℤ v) → (x <ℤ u) ⊎ ((x ≡ u) × (y ≤ℤ v))
by_one_number base x y u v low high le =
    by_lt_z x u (λ lt. inl lt)
    (λ ge. by_lt_z u x
    (λ gt. absurd (omega (
      arith,
      linear,
      scaled_gap x u (pos base),
      nonneg_product (x -ℤ u -ℤ pos 1) (pos base) (omega (arith, linear)) (omega (arith, linear)),
    )))
    (λ up. let e : x ≡ u = omega (arith, linear) in inr (e, omega (arith, linear, ap (λ (z : ℤ). z *ℤ pos base) e))))
