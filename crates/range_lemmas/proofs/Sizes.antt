-- How large sums, differences and products of numbers get, and which of them code over i64 keeps as they are.
use Rattle.std.proofs.Common.{◌≡◌, ℕ, ◌+◌, ◌*◌, ◌<◌, ◌≤◌, ℤ, pos, negsuc, neg_ℤ, ◌+ℤ◌, ◌-ℤ◌, ◌*ℤ◌, ◌≤ℤ◌, arith, w64, ap, ◌∙◌, unsigned_abs, FitsSigned}
use mir.Val.{to_z, of_z}
use Rattle.std.proofs.Math.Nat.{mul-le-mul}
use Rattle.std.proofs.lemmas.Int.{ints, to_z-of_z, unsigned_abs-mul, fits_signed_from_abs}

-- |z| is at most m
pub abs_le : (z : ℤ) (m : ℕ) → neg_ℤ (pos m) ≤ℤ z → z ≤ℤ pos m → unsigned_abs z ≤ m
abs_le (pos k) m low high = omega (arith, ints)
abs_le (negsuc k) m low high = omega (arith, ints)

pub abs_below : (z : ℤ) (m : ℕ) → unsigned_abs z ≤ m → neg_ℤ (pos m) ≤ℤ z
abs_below (pos k) m h = omega (arith, ints)
abs_below (negsuc k) m h = omega (arith, ints)

pub abs_above : (z : ℤ) (m : ℕ) → unsigned_abs z ≤ m → z ≤ℤ pos m
abs_above (pos k) m h = omega (arith, ints)
abs_above (negsuc k) m h = omega (arith, ints)

-- sizes of numbers bound the size of their difference, sum and product
pub abs_sub : (x y : ℤ) (k m : ℕ) → unsigned_abs x ≤ k → unsigned_abs y ≤ m → unsigned_abs (x -ℤ y) ≤ k + m
abs_sub x y k m f g =
    let xl = abs_below x k f in
    let xh = abs_above x k f in
    let yl = abs_below y m g in
    let yh = abs_above y m g in
    abs_le (x -ℤ y) (k + m) (omega (arith, ints)) (omega (arith, ints))

-- a sum is at most as large as the bounds of both together
pub abs_add : (x y : ℤ) (k m : ℕ) → unsigned_abs x ≤ k → unsigned_abs y ≤ m → unsigned_abs (x +ℤ y) ≤ k + m
abs_add x y k m f g =
    let xl = abs_below x k f in
    let xh = abs_above x k f in
    let yl = abs_below y m g in
    let yh = abs_above y m g in
    abs_le (x +ℤ y) (k + m) (omega (arith, ints)) (omega (arith, ints))

-- a product is at most as large as the product of the bounds
pub abs_mul : (x y : ℤ) (k m : ℕ) → unsigned_abs x ≤ k → unsigned_abs y ≤ m → unsigned_abs (x *ℤ y) ≤ k * m
abs_mul x y k m f g = omega (arith, unsigned_abs-mul x y, mul-le-mul f g)

-- a number of at most a size that fits 64 bits
pub fits_from_size : (m : ℕ) → m < 9223372036854775808 → (z : ℤ) → unsigned_abs z ≤ m → FitsSigned w64 z
fits_from_size m room z h = fits_signed_from_abs w64 z (omega arith)

-- ---- numbers from 0 to m
abbrev pub IsUpTo : ℕ → ℤ → Type 0
IsUpTo m x = (pos 0 ≤ℤ x) × (x ≤ℤ pos m)

-- a number from 0 to m has a size of at most m
pub abs_up_to : (m : ℕ) (x : ℤ) → IsUpTo m x → unsigned_abs x ≤ m
abs_up_to m x f = abs_le x m (omega (arith, ints)) (omega (arith, ints))

-- a difference of two numbers from 0 to m
pub abs_difference : (m : ℕ) (x y : ℤ) → IsUpTo m x → IsUpTo m y → unsigned_abs (x -ℤ y) ≤ m
abs_difference m x y f g = abs_le (x -ℤ y) m (omega (arith, ints)) (omega (arith, ints))

-- a number from 0 to m comes back from 64 bits as it was
pub kept : (m : ℕ) → m < 9223372036854775808 → (x : ℤ) → IsUpTo m x → to_z w64 (of_z w64 x) ≡ x
kept m room x f = to_z-of_z w64 x (fits_from_size m room x (abs_up_to m x f))

-- so does a difference of two such numbers, as code computes it
pub difference_kept : (m : ℕ) → m < 9223372036854775808 → (x y : ℤ) → IsUpTo m x → IsUpTo m y
    → to_z w64 (of_z w64 (to_z w64 (of_z w64 x) -ℤ to_z w64 (of_z w64 y))) ≡ x -ℤ y
difference_kept m room x y f g =
    ap (λ z. to_z w64 (of_z w64 (z -ℤ to_z w64 (of_z w64 y)))) (kept m room x f)
    ∙ ap (λ z. to_z w64 (of_z w64 (x -ℤ z))) (kept m room y g)
    ∙ to_z-of_z w64 (x -ℤ y) (fits_from_size m room (x -ℤ y) (abs_difference m x y f g))
