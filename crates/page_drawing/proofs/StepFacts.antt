-- Sizes of steps.
use Rattle.std.proofs.Common.{ℕ, ◌*◌, ◌/◌, ◌<◌, ◌≤◌, ◌^◌, arith}
use Rattle.std.proofs.Math.Nat.{pow-le-pow_right}
use Rattle.std.proofs.lemmas.Nat.{mul-le}

-- the power of ten of a step
pub power_most : (place : ℕ) → place < 45 → 10 ^ (place / 3) ≤ 10 ^ 14
power_most place within = pow-le-pow_right {n = 10} (omega arith) {i = place / 3} {j = 14} (omega arith)

pub power_some : (zeros : ℕ) → 1 ≤ 10 ^ zeros
power_some zeros = pow-le-pow_right {n = 10} (omega arith) {i = 0} {j = zeros} (omega arith)

-- a step, and so many of it
pub size_most : (digit power : ℕ) → digit ≤ 5 → power ≤ 10 ^ 14 → digit * power ≤ 5 * 10 ^ 14
size_most digit power few most = mul-le digit power 5 (10 ^ 14) few most

pub size_some : (digit power : ℕ) → 0 < digit → 1 ≤ power → 0 < digit * power
size_some digit power some one = omega (arith, mul-le 1 1 digit power some one)

pub sizes_most : (count size : ℕ) → count ≤ 2 ^ 63 → size ≤ 5 * 10 ^ 14 → count * size ≤ 2 ^ 112
sizes_most count size few most = omega (arith, mul-le count size (2 ^ 63) (5 * 10 ^ 14) few most)
