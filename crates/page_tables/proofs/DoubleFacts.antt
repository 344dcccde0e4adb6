-- Parts that are doubled.
use Rattle.std.proofs.Common.{◌≡◌, ℕ, zero, suc, ◌+◌, ◌-◌, ◌*◌, ◌/◌, ◌^◌, ◌<◌, ◌≤◌, true, false, refl, arith}
use Rattle.std.proofs.Math.Nat.{div-lt_iff_lt-mul, mul-le-mul_left}
use Rattle.page_tables.specs.Doubles.{doubled, even_rounded, is_full}

pub doubled_none : (more part whole power : ℕ) → more ≡ 0 → doubled more part whole power ≡ record { part = part; power = power }
unfolding doubled
doubled_none zero part whole power none = refl
doubled_none (suc more) part whole power none = absurd (omega (arith, none))

pub doubled_full : (more part whole power : ℕ) → is_full part whole ≡ true → doubled more part whole power ≡ record { part = part; power = power }
unfolding doubled
doubled_full zero part whole power full = refl
doubled_full (suc more) part whole power full = rw full refl

pub doubled_more : (more part whole power : ℕ) → 0 < more → is_full part whole ≡ false
    → doubled more part whole power ≡ doubled (more - 1) (part * 2) whole (power * 2)
unfolding doubled
doubled_more zero part whole power some full = absurd (omega (arith, some))
doubled_more (suc more) part whole power some full =
    let left : suc more - 1 ≡ more = omega arith in
    rw (full, left) refl

-- a quotient of 53 binary digits, or of a part below 2^64, has no more than 66 with its rounding
pub even_below : (part whole : ℕ) → 0 < whole → part < 2 ^ 53 * whole + 2 ^ 64 → even_rounded part whole < 2 ^ 66
even_below part whole some most =
    let more : 2 ^ 64 * 1 ≤ 2 ^ 64 * whole = mul-le-mul_left (2 ^ 64) some in
    let below : part / whole < 2 ^ 53 + 2 ^ 64 = (div-lt_iff_lt-mul some).1 (omega (arith, most, more)) in
    grind (arith, below)
