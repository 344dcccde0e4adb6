-- The laws of the integers' sum and product that a normal form of polynomials rests on, and the signs of products.
use Rattle.std.proofs.Common.{◌≡◌, refl, ap, ℕ, zero, suc, ◌+◌, ◌*◌, ℤ, pos, negsuc, ◌+ℤ◌, ◌*ℤ◌, neg_ℤ, ◌≤ℤ◌, ◌<ℤ◌, arith}
use Rattle.std.proofs.lemmas.Int.{ints, by_lt_z}
use borrow.Author.Differences.{up, down, same_out, Apart-out, lt_out, le_out, same_in, below_in, at_most_in, sum_is_lem, neg_is, product_is}

-- Linear arithmetic over the integers, in which a product is an unknown.
pub ruleset linear = (same_out, Apart-out, lt_out, le_out, same_in, below_in, at_most_in, sum_is_lem, neg_is)

-- the factors of a product may change sides
pub product_comm : (a b : ℤ) → a *ℤ b ≡ b *ℤ a
product_comm a b = omega (arith, ints)

-- a product with a sum is the sum of the products
pub distribute : (a b c : ℤ) → a *ℤ (b +ℤ c) ≡ a *ℤ b +ℤ a *ℤ c
distribute a b c =
    let s : up (b +ℤ c) + down b + down c ≡ down (b +ℤ c) + up b + up c = sum_is_lem b c in
    omega (arith, linear, product_is a (b +ℤ c), product_is a b, product_is a c, ap (λ (x : ℕ). up a * x) s, ap (λ (x : ℕ). down a * x) s)

-- of three factors the first two or the last two may be multiplied first
pub product_assoc : (a b c : ℤ) → (a *ℤ b) *ℤ c ≡ a *ℤ (b *ℤ c)
product_assoc a b c =
    let ab = product_is a b in
    let bc = product_is b c in
    omega (
      arith,
      linear,
      product_is (a *ℤ b) c,
      product_is a (b *ℤ c),
      ap (λ (x : ℕ). x * up c) ab.0,
      ap (λ (x : ℕ). x * down c) ab.0,
      ap (λ (x : ℕ). x * up c) ab.1,
      ap (λ (x : ℕ). x * down c) ab.1,
      ap (λ (x : ℕ). up a * x) bc.0,
      ap (λ (x : ℕ). down a * x) bc.0,
      ap (λ (x : ℕ). up a * x) bc.1,
      ap (λ (x : ℕ). down a * x) bc.1,
    )

-- ---- signs of products
-- two numbers that are not negative have a product that is not negative
pub nonneg_product : (a b : ℤ) → pos 0 ≤ℤ a → pos 0 ≤ℤ b → pos 0 ≤ℤ (a *ℤ b)
nonneg_product (pos m) (pos n) h k = omega (arith, ints)
nonneg_product (pos m) (negsuc n) h k = absurd (omega (arith, ints))
nonneg_product (negsuc m) b h k = absurd (omega (arith, ints))

-- two positive numbers have a positive product
pub positive_product : (a b : ℤ) → pos 0 <ℤ a → pos 0 <ℤ b → pos 0 <ℤ (a *ℤ b)
positive_product (pos (suc m)) (pos (suc n)) h k = omega (arith, ints)
positive_product (pos zero) b h k = absurd (omega (arith, ints))
positive_product (negsuc m) b h k = absurd (omega (arith, ints))
positive_product (pos (suc m)) (pos zero) h k = absurd (omega (arith, ints))
positive_product (pos (suc m)) (negsuc n) h k = absurd (omega (arith, ints))

-- a factor of at least one makes nothing smaller
pub at_least_product : (a x : ℤ) → pos 0 ≤ℤ a → pos 0 <ℤ x → a ≤ℤ (a *ℤ x)
at_least_product (pos m) (pos (suc n)) h k = omega (arith, ints)
at_least_product (pos m) (pos zero) h k = absurd (omega (arith, ints))
at_least_product (pos m) (negsuc n) h k = absurd (omega (arith, ints))
at_least_product (negsuc m) x h k = absurd (omega (arith, ints))

-- no square is negative
pub nonneg_square : (a : ℤ) → pos 0 ≤ℤ (a *ℤ a)
nonneg_square (pos m) = omega (arith, ints)
nonneg_square (negsuc m) = omega (arith, ints)

-- a product with a negated number is the product, negated
pub neg_product : (a b : ℤ) → a *ℤ neg_ℤ b ≡ neg_ℤ (a *ℤ b)
neg_product a b =
    let f = neg_is b in
    omega (
      arith,
      linear,
      product_is a (neg_ℤ b),
      product_is a b,
      ap (λ (x : ℕ). up a * x) f.0,
      ap (λ (x : ℕ). down a * x) f.0,
      ap (λ (x : ℕ). up a * x) f.1,
      ap (λ (x : ℕ). down a * x) f.1,
    )

-- a number that is not negative and one that is not positive have a product that is not positive
pub nonpos_product : (a b : ℤ) → pos 0 ≤ℤ a → b ≤ℤ pos 0 → (a *ℤ b) ≤ℤ pos 0
nonpos_product a b h k = omega (arith, linear, neg_product a b, nonneg_product a (neg_ℤ b) h (omega (arith, linear)))

-- two numbers that are not positive
pub nonpos_nonpos : (a b : ℤ) → a ≤ℤ pos 0 → b ≤ℤ pos 0 → pos 0 ≤ℤ (a *ℤ b)
nonpos_nonpos a b h k = omega (arith, linear, product_comm a b, neg_product b a, nonpos_product (neg_ℤ a) b (omega (arith, linear)) k, product_comm b (neg_ℤ a))

-- a factor of a positive product is positive where the other is not negative
pub positive_factor : (a x : ℤ) → pos 0 ≤ℤ a → pos 0 <ℤ (a *ℤ x) → pos 0 <ℤ x
positive_factor a x h k = by_lt_z (pos 0) x (λ p. p) (λ q. absurd (omega (arith, linear, nonpos_product a x h q)))

pub data Sign (z : ℤ) : Type 0 where
  negative : z <ℤ pos 0 → Sign z
  naught : z ≡ pos 0 → Sign z
  positive : pos 0 <ℤ z → Sign z

-- each number is negative, 0 or positive
pub sign : (z : ℤ) → Sign z
sign (pos zero) = naught refl
sign (pos (suc n)) = positive (omega (arith, linear))
sign (negsuc n) = negative (omega (arith, linear))

-- only 0 has a square that is not positive
pub square_naught : (a : ℤ) → (a *ℤ a) ≤ℤ pos 0 → a ≡ pos 0
square_naught (pos zero) h = refl
square_naught (pos (suc m)) h = absurd (omega (arith, ints))
square_naught (negsuc m) h = absurd (omega (arith, ints))
