-- Products of bounded numbers.
use Rattle.std.proofs.Common.{ℕ, ◌*◌, ◌<◌, ◌≤◌, ◌^◌, arith}
use Rattle.std.proofs.Math.Nat.{pow-le-pow_right}
use Rattle.std.proofs.lemmas.Nat.{mul-le}

pub lengths_most : (count unit : ℕ) → count ≤ 2 ^ 50 → unit ≤ 2 ^ 50 → count * unit ≤ 2 ^ 100
lengths_most count unit few most = mul-le count unit (2 ^ 50) (2 ^ 50) few most

pub product_some : (count unit : ℕ) → 0 < count → 0 < unit → 0 < count * unit
product_some count unit some more = omega (arith, mul-le 1 1 count unit some more)

pub parts_most : (length count : ℕ) → length ≤ 2 ^ 104 → count ≤ 2 ^ 17 → length * count ≤ 2 ^ 121
parts_most length count most few = mul-le length count (2 ^ 104) (2 ^ 17) most few

-- powers up to the seventeenth
pub twos_most : (power : ℕ) → power ≤ 17 → 2 ^ power ≤ 2 ^ 17
twos_most power most = pow-le-pow_right {n = 2} (omega arith) {i = power} {j = 17} most

pub threes_most : (power : ℕ) → power ≤ 17 → 3 ^ power ≤ 3 ^ 17
threes_most power most = pow-le-pow_right {n = 3} (omega arith) {i = power} {j = 17} most

pub threes_some : (power : ℕ) → 1 ≤ 3 ^ power
threes_some power = pow-le-pow_right {n = 3} (omega arith) {i = 0} {j = power} (omega arith)
