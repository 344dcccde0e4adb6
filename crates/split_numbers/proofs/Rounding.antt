-- A number of units, rounded, by its whole units and what is left of another one.
use Rattle.std.proofs.Common.{◌≡◌, ◌+◌, ◌-◌, ◌*◌, ◌/◌, ◌^◌, ◌<◌, ◌≤◌, ◌∙◌, ℕ, zero, suc, Bool, false, true, ap, refl, inl, inr, nat_lt, arith, rules, tests, add-one}
use lib.IntN.{ℤ, pos, negsuc, neg_ℤ, sub_ℕ, ◌+ℤ◌, ◌*ℤ◌}
use Rattle.std.specs.Int.{int_div_euclid}
use Rattle.std.specs.declared.cmp.Ordering.{Ordering}
use Rattle.std.specs.declared.cmp.Ordering.TheVariants.{Less, Equal, Greater}
use Rattle.std.proofs.lemmas.Bool.{cases_order, lt-ltb, le-ltb}
use Rattle.std.proofs.lemmas.Nat.{div-mul-add}
use Rattle.split_numbers.specs.Decimal.{rounded, signed}
use Rattle.split_numbers.specs.Digits.{half_at}

pub half_less : (n m : ℕ) → 2 * n < m → half_at n m ≡ Less
half_less n m h = let t : nat_lt (2 * n) m ≡ true = search (rules, tests) in rw t refl

pub half_equal : (n m : ℕ) → 2 * n ≡ m → half_at n m ≡ Equal
half_equal n m h =
    let s : m ≤ 2 * n = omega arith in
    let t : nat_lt (2 * n) m ≡ false = search (rules, tests) in
    let v : 2 * n ≤ m = omega arith in
    let u : nat_lt m (2 * n) ≡ false = search (rules, tests) in
    rw (t, u) refl

pub half_greater : (n m : ℕ) → m < 2 * n → half_at n m ≡ Greater
half_greater n m h =
    let s : m ≤ 2 * n = omega arith in
    let t : nat_lt (2 * n) m ≡ false = search (rules, tests) in
    let u : nat_lt m (2 * n) ≡ true = search (rules, tests) in
    rw (t, u) refl

-- what w units and a part of one come to: half a unit goes up
abbrev pub above : ℕ → Ordering → ℤ
above w Less = pos w
above w Equal = pos (w + 1)
above w Greater = pos (w + 1)

-- and below 0
abbrev pub below : ℕ → Ordering → ℤ
below w Less = neg_ℤ (pos w)
below w Equal = neg_ℤ (pos w)
below w Greater = neg_ℤ (pos (w + 1))

abbrev pub nearest : Bool → ℕ → Ordering → ℤ
nearest false w part = above w part
nearest true w part = below w part

quotient_is : (a b q r : ℕ) → a ≡ q * b + r → r < b → a / b ≡ q
quotient_is a b q r e less = ap (λ (x : ℕ). x / b) e ∙ div-mul-add q b r less

above_is : (m p w n : ℕ) → m ≡ w * p + n → n < p → pos ((2 * m + p) / (2 * p)) ≡ above w (half_at n p)
above_is m p w n e small = elim (cases_order (2 * n) p) [
  | inl equal ↦ rw (half_equal n p equal) (ap pos (quotient_is (2 * m + p) (2 * p) (w + 1) 0 (rw e (omega arith)) (omega arith)))
  | inr (inl less) ↦ rw (half_less n p less) (ap pos (quotient_is (2 * m + p) (2 * p) w (2 * n + p) (rw e (omega arith)) (omega arith)))
  | inr (inr more) ↦ rw (half_greater n p more) (ap pos (quotient_is (2 * m + p) (2 * p) (w + 1) (2 * n - p) (rw e (omega arith)) (omega arith)))
]

below_zero : (a b : ℕ) → a < b → sub_ℕ a b ≡ negsuc (b - suc a)
below_zero a b h = rw (lt-ltb a b h) refl

not_below_zero : (a b : ℕ) → b ≤ a → sub_ℕ a b ≡ pos (a - b)
not_below_zero a b h = rw (le-ltb a b h) refl

-- less than a unit below 0
small_is : (m p n : ℕ) → m ≡ n → n < p → int_div_euclid (sub_ℕ p (2 * m)) (pos (2 * p)) ≡ below 0 (half_at n p)
small_is m p n e small = elim (cases_order (2 * n) p) [
  | inl equal ↦ rw (half_equal n p equal, not_below_zero p (2 * m) (omega arith)) (ap pos (quotient_is (p - 2 * m) (2 * p) 0 (p - 2 * m) (omega arith) (omega arith)))
  | inr (inl less) ↦ rw (half_less n p less, not_below_zero p (2 * m) (omega arith)) (ap pos (quotient_is (p - 2 * m) (2 * p) 0 (p - 2 * m) (omega arith) (omega arith)))
  | inr (inr more) ↦ rw (half_greater n p more, below_zero p (2 * m) (omega arith)) (ap negsuc (quotient_is (2 * m - suc p) (2 * p) 0 (2 * m - suc p) (omega arith) (omega arith)))
]

-- a unit and more below 0
great_is : (m p v n : ℕ) → m ≡ suc v * p + n → n < p → int_div_euclid (sub_ℕ p (2 * m)) (pos (2 * p)) ≡ below (suc v) (half_at n p)
great_is m p v n e small =
    let double : 2 * m ≡ v * (2 * p) + 2 * p + 2 * n = rw e (omega arith) in
    let before : p < 2 * m = omega (arith, double) in
    rw (below_zero p (2 * m) before) (elim (cases_order (2 * n) p) [
      | inl equal ↦ rw (half_equal n p equal) (ap negsuc (quotient_is (2 * m - suc p) (2 * p) v (2 * n + p - 1) (omega (arith, double)) (omega arith)))
      | inr (inl less) ↦ rw (half_less n p less) (ap negsuc (quotient_is (2 * m - suc p) (2 * p) v (2 * n + p - 1) (omega (arith, double)) (omega arith)))
      | inr (inr more) ↦ rw (half_greater n p more, add-one) (ap negsuc (quotient_is (2 * m - suc p) (2 * p) (suc v) (2 * n - suc p) (omega (arith, double)) (omega arith)))
    ])

below_is : (m p w n : ℕ) → m ≡ w * p + n → n < p → int_div_euclid (sub_ℕ p (2 * m)) (pos (2 * p)) ≡ below w (half_at n p)
below_is m p zero n e small = small_is m p n (omega (arith, e)) small
below_is m p (suc v) n e small = great_is m p v n e small

product_is : (a n : ℕ) → pos a *ℤ neg_ℤ (pos n) ≡ neg_ℤ (pos (a * n))
product_is a zero = let e : a * 0 ≡ 0 = omega arith in rw e refl
product_is a (suc n) = refl

sum_is : (a b : ℕ) → neg_ℤ (pos a) +ℤ pos b ≡ sub_ℕ b a
sum_is zero b = let e : 0 + b ≡ b - 0 = omega arith in rw (not_below_zero b 0 (omega arith), e) refl
sum_is (suc a) b = refl

-- the units of n / 10^k metres, which are w and a part of one
pub rounded_is : (negative : Bool) (units n k w part : ℕ) → units * n ≡ w * 10 ^ k + part → part < 10 ^ k
    → rounded units (signed negative n) k ≡ nearest negative w (half_at part (10 ^ k))
unfolding rounded
rounded_is false units n k w part e small =
    let double : 2 * units * n ≡ 2 * (units * n) = omega arith in
    rw double (above_is (units * n) (10 ^ k) w part e small)
rounded_is true units n k w part e small =
    let double : 2 * units * n ≡ 2 * (units * n) = omega arith in
    rw (product_is (2 * units) n, double, sum_is (2 * (units * n)) (10 ^ k)) (below_is (units * n) (10 ^ k) w part e small)
