-- How far rounding moves a number.
use Rattle.std.proofs.Common.{◌≡◌, ◌+◌, ◌*◌, ◌^◌, ◌<◌, ◌≤◌, ◌∙◌, ℕ, zero, suc, arith, refl}
use lib.IntN.{ℤ, pos, negsuc, neg_ℤ, ◌+ℤ◌, ◌*ℤ◌}
use lib.Signed.{◌≤ℤ◌, ◌<ℤ◌}
use borrow.Author.Differences.{up, down}
use Rattle.std.specs.Int.{int_div_euclid}
use Rattle.std.proofs.Math.Nat.{pow-suc}
use Rattle.std.proofs.lemmas.Int.{ints}
use Rattle.split_numbers.specs.Decimal.{rounded}
use Rattle.split_numbers.specs.Laws.{twice_moved}

neg_parts : (n : ℕ) → (up (neg_ℤ (pos n)) ≡ 0) × (down (neg_ℤ (pos n)) ≡ n)
neg_parts zero = (refl, refl)
neg_parts (suc n) = (refl, refl)

-- a product with a number from 0 on, by the parts of an integer: z is up z - down z
product_parts : (k : ℕ) (z : ℤ) → (up (pos k *ℤ z) ≡ k * up z) × (down (pos k *ℤ z) ≡ k * down z)
product_parts k (pos n) = (refl, omega arith)
product_parts k (negsuc n) = ((neg_parts (k * suc n)).0 ∙ omega arith, (neg_parts (k * suc n)).1)

product_parts_right : (k : ℕ) (z : ℤ) → (up (z *ℤ pos k) ≡ up z * k) × (down (z *ℤ pos k) ≡ down z * k)
product_parts_right k (pos n) = (refl, omega arith)
product_parts_right k (negsuc n) = ((neg_parts (suc n * k)).0 ∙ omega arith, (neg_parts (suc n * k)).1)

-- q is the quotient that is rounded down: q * k ≤ a < q * k + k
quotient_parts : (a : ℤ) (k : ℕ) → 0 < k
    → (up (int_div_euclid a (pos k)) * k + down a ≤ down (int_div_euclid a (pos k)) * k + up a)
    × (down (int_div_euclid a (pos k)) * k + up a < up (int_div_euclid a (pos k)) * k + down a + k)
quotient_parts (pos a) k h = omega arith
quotient_parts (negsuc a) k h = omega arith

some : (k : ℕ) → 0 < 10 ^ k
some zero = omega arith
some (suc k) = omega (arith, some k, pow-suc 10 k)

module _ (units : ℕ) (n : ℤ) (k : ℕ) where
  twice_units : (up (pos (2 * units) *ℤ n) ≡ 2 * (units * up n)) × (down (pos (2 * units) *ℤ n) ≡ 2 * (units * down n))
  twice_units = (omega (arith, (product_parts (2 * units) n).0), omega (arith, (product_parts (2 * units) n).1))

  pub moves_at_most : twice_moved units n k ≤ℤ pos (10 ^ k)
  unfolding rounded
  moves_at_most =
      let p = 10 ^ k in
      let a = pos (2 * units) *ℤ n +ℤ pos p in
      let q = int_div_euclid a (pos (2 * p)) in
      let floor = quotient_parts a (2 * p) (omega (arith, some k)) in
      omega (arith, ints, floor.0, floor.1, twice_units.0, twice_units.1, (product_parts units n).0, (product_parts units n).1, (product_parts_right p q).0, (product_parts_right p q).1)

  pub moves_more_than : neg_ℤ (pos (10 ^ k)) <ℤ twice_moved units n k
  unfolding rounded
  moves_more_than =
      let p = 10 ^ k in
      let a = pos (2 * units) *ℤ n +ℤ pos p in
      let q = int_div_euclid a (pos (2 * p)) in
      let floor = quotient_parts a (2 * p) (omega (arith, some k)) in
      omega (arith, ints, floor.0, floor.1, twice_units.0, twice_units.1, (product_parts units n).0, (product_parts units n).1, (product_parts_right p q).0, (product_parts_right p q).1)
