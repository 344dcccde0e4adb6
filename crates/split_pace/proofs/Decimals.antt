-- The values of decimals.
use Rattle.std.proofs.Common.{◌≡◌, ◌+◌, ◌-◌, ◌*◌, ◌^◌, ◌<◌, ◌≤◌, ◌∙◌, ℕ, true, min, List, length, sym, ap, arith, subst}
use Rattle.std.specs.Char.{is_ascii_digit}
use Rattle.std.specs.List.{list_all}
use Rattle.std.specs.Str.Parse.{digits_value}
use Rattle.std.proofs.Math.Nat.{mul-lt-mul_of_pos_right, one-le-pow, pow-le-pow_right}
use Rattle.std.proofs.lemmas.Nat.{pow-add}
use Rattle.split_numbers.proofs.Values.{value_less}

power_most : (k : ℕ) → k ≤ 6 → 10 ^ k ≤ 1_000_000
power_most k few = pow-le-pow_right {n = 10} (omega arith) few

-- a value that is held at a million is that of at most six digits
pub value_is : (digits : List ℕ) (value : ℕ) → list_all is_ascii_digit digits ≡ true → length digits ≤ 6 → min 1_000_001 value ≡ min 1_000_001 (digits_value 10 digits) → value ≡ digits_value 10 digits
value_is digits value all few same = omega (arith, value_less digits all, power_most (length digits) few, same)

-- six decimals are less than a million millionths
pub millionths_less : (value k : ℕ) → k ≤ 6 → value < 10 ^ k → value * 10 ^ (6 - k) < 1_000_000
millionths_less value k few less =
    let rest = 6 - k in
    let all : k + rest ≡ 6 = omega (arith, few) in
    let whole : 10 ^ k * 10 ^ rest ≡ 1_000_000 = sym (pow-add 10 k rest) ∙ ap (λ n. 10 ^ n) all in
    subst (λ n. value * 10 ^ rest < n) whole (mul-lt-mul_of_pos_right less (some rest))
  where
    some : (n : ℕ) → 0 < 10 ^ n
    some n = one-le-pow n 10 (omega arith)
