-- Digits behind a point against one half, by the first of them.
use Rattle.std.proofs.Common.{◌≡◌, ◌+◌, ◌-◌, ◌*◌, ◌^◌, ◌<◌, ◌≤◌, ℕ, true, false, nat_lt, List, [], ◌∷◌, length, Some, None, if◌then◌else◌, arith, rules, tests, refl}
use Rattle.std.specs.Char.{digit_value, is_ascii_digit}
use Rattle.std.specs.Int.{IsInRange}
use Rattle.std.specs.List.{list_all}
use Rattle.std.specs.Str.Parse.{digits_value}
use Rattle.std.specs.declared.cmp.Ordering.{Ordering}
use Rattle.std.specs.declared.cmp.Ordering.TheVariants.{Less, Equal, Greater}
use Rattle.std.proofs.Math.Nat.{mul-le-mul_right, pow-suc}
use Rattle.std.proofs.lemmas.Str.{digit_value_digit}
use Rattle.split_numbers.specs.Digits.{against_half}
use Rattle.split_numbers.proofs.Rounding.{half_less, half_equal, half_greater}
use Rattle.split_numbers.proofs.Values.{value_less, value_of_first}

-- no digits are less
pub of_none : (digits : List ℕ) → length digits ≡ 0 → Some Less ≡ (if list_all is_ascii_digit digits then Some (against_half digits) else None)
unfolding against_half
of_none [] e = refl
of_none (d ∷ digits) e = cc e

module _ (d : ℕ) (digits : List ℕ) (range : IsInRange 48 57 d) (all : list_all is_ascii_digit digits ≡ true) where
  doubled : (v : ℕ) → v ≡ d - 48 → 2 * digits_value 10 (d ∷ digits) ≡ 2 * (v * 10 ^ length digits) + 2 * digits_value 10 digits
  doubled v e =
      let same : digit_value d ≡ v = omega (arith, digit_value_digit d range, e) in
      rw (value_of_first d digits, same) (omega arith)

  ten_times : 10 ^ length (d ∷ digits) ≡ 10 ^ length digits * 10
  ten_times = pow-suc 10 (length digits)

  pub first_less : d < 53 → against_half (d ∷ digits) ≡ Less
  unfolding against_half
  first_less h =
      let few : (d - 48) * 10 ^ length digits ≤ 4 * 10 ^ length digits = mul-le-mul_right (10 ^ length digits) (omega arith) in
      half_less (digits_value 10 (d ∷ digits)) (10 ^ length (d ∷ digits)) (omega (arith, doubled (d - 48) refl, few, value_less digits all, ten_times))

  pub first_greater : 53 < d → against_half (d ∷ digits) ≡ Greater
  unfolding against_half
  first_greater h =
      let many : 6 * 10 ^ length digits ≤ (d - 48) * 10 ^ length digits = mul-le-mul_right (10 ^ length digits) (omega arith) in
      half_greater (digits_value 10 (d ∷ digits)) (10 ^ length (d ∷ digits)) (omega (arith, doubled (d - 48) refl, many, value_less digits all, ten_times))

  pub five_and_more : d ≡ 53 → nat_lt 0 (digits_value 10 digits) ≡ true → against_half (d ∷ digits) ≡ Greater
  unfolding against_half
  five_and_more h e =
      let more : 0 < digits_value 10 digits = search (rules, tests) in
      half_greater (digits_value 10 (d ∷ digits)) (10 ^ length (d ∷ digits)) (omega (arith, doubled 5 (omega (arith, h)), more, ten_times))

  pub five_and_zeros : d ≡ 53 → nat_lt 0 (digits_value 10 digits) ≡ false → against_half (d ∷ digits) ≡ Equal
  unfolding against_half
  five_and_zeros h e =
      let zeros : digits_value 10 digits ≤ 0 = search (rules, tests) in
      half_equal (digits_value 10 (d ∷ digits)) (10 ^ length (d ∷ digits)) (omega (arith, doubled 5 (omega (arith, h)), zeros, ten_times))

-- what is found of the first digit and the others is found of all
pub of_all : (digits : List ℕ) (d : ℕ) (others : List ℕ) (half : Ordering) → digits ≡ d ∷ others → is_ascii_digit d ≡ true → list_all is_ascii_digit others ≡ true
    → against_half (d ∷ others) ≡ half → Some half ≡ (if list_all is_ascii_digit digits then Some (against_half digits) else None)
of_all digits d others half e one all f = rw (e, one, all, f) refl
