-- Quotients that are rounded down.
use Rattle.std.proofs.Common.{◌≡◌, ℕ, zero, suc, ◌+◌, ◌*◌, ◌<◌, ◌≤◌, ◌∙◌, refl, arith}
use lib.IntN.{ℤ, pos, negsuc, neg_ℤ, ◌+ℤ◌, ◌*ℤ◌}
use borrow.Author.Differences.{up, down}
use Rattle.std.specs.Int.{int_div_euclid}
use Rattle.std.proofs.lemmas.Int.{ints}
use Rattle.page_drawing.specs.Laws.{PlacesAreNearest}

neg_parts : (n : ℕ) → (up (neg_ℤ (pos n)) ≡ 0) × (down (neg_ℤ (pos n)) ≡ n)
neg_parts zero = (refl, refl)
neg_parts (suc n) = (refl, refl)

-- a product with a number from 0 on, by the parts of an integer: z is up z - down z
product_parts : (k : ℕ) (z : ℤ) → (up (pos k *ℤ z) ≡ k * up z) × (down (pos k *ℤ z) ≡ k * down z)
product_parts k (pos n) = (refl, omega arith)
product_parts k (negsuc n) = ((neg_parts (k * suc n)).0 ∙ omega arith, (neg_parts (k * suc n)).1)

-- q is the quotient that is rounded down: q * k ≤ a < q * k + k
quotient_parts : (a : ℤ) (k : ℕ) → 0 < k
    → (up (int_div_euclid a (pos k)) * k + down a ≤ down (int_div_euclid a (pos k)) * k + up a)
    × (down (int_div_euclid a (pos k)) * k + up a < up (int_div_euclid a (pos k)) * k + down a + k)
quotient_parts (pos a) k h = omega arith
quotient_parts (negsuc a) k h = omega arith

pub nearest : PlacesAreNearest
nearest part whole some =
    let a = pos 20 *ℤ part +ℤ pos whole in
    let q = int_div_euclid a (pos (2 * whole)) in
    let floor = quotient_parts a (2 * whole) (omega arith) in
    let scaled = product_parts 20 part in
    let back = product_parts (2 * whole) q in
    (omega (arith, ints, floor.0, scaled.0, scaled.1, back.0, back.1), omega (arith, ints, floor.1, scaled.0, scaled.1, back.0, back.1))
