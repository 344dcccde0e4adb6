use Rattle.std.proofs.Common.{◌≡◌, ℕ, suc, ◌+◌, ◌*◌, ◌^◌, ◌<◌, ◌≤◌, length, get_or, true, ap, ◌∙◌, arith, rules, tests, refl}
use Rattle.std.specs.Char.{is_ascii_digit}
use Rattle.std.specs.Int.{IsInRange}
use Rattle.std.proofs.Math.Nat.{pow-le-pow_right, pow-suc}
use Rattle.std.proofs.lemmas.Int.Digits.{digits_value_more}
use Rattle.std.proofs.lemmas.List.Folds.{list_all_more}
use Rattle.std.proofs.lemmas.Str.{digit_value_digit}
use Rattle.range_numbers.specs.declared.groups.TheConstants.{GROUP}
use Rattle.range_numbers.proofs.number.few_value.Goals as goal

ten_to_the_most : (i : ℕ) → i ≤ GROUP → 10 ^ i ≤ 10 ^ GROUP
ten_to_the_most i few = pow-le-pow_right {n = 10} (omega arith) {i = i} {j = GROUP} few

times_ten : (i : ℕ) → 10 ^ (i + 1) ≡ 10 ^ i * 10
times_ten i = let next : i + 1 ≡ suc i = omega arith in ap (λ (k : ℕ). 10 ^ k) next ∙ pow-suc 10 i

pub overflow_mul-value : goal.overflow_mul-value
overflow_mul-value c =
    let few = ten_to_the_most c.loop-byte.byte-index (omega arith) in
    omega (arith, few, c.loop-byte.invariant.small)

pub overflow_add-value : goal.overflow_add-value
overflow_add-value c =
    let few = ten_to_the_most c.loop-byte.byte-index (omega arith) in
    omega (arith, few, c.loop-byte.invariant.small, c.from.ensures, c.if-digit-gt9.false)

pub loop-byte-preserved : goal.loop-byte-preserved
loop-byte-preserved c =
    let xs = c.args.bytes.now in
    let i = c.loop-byte.byte-index in
    let inside : i < length xs = omega arith in
    let range : IsInRange 48 57 (get_or xs i 0) = search (rules, tests) in
    let digit : is_ascii_digit (get_or xs i 0) ≡ true = search (rules, tests) in
    let value = digits_value_more 10 xs i inside in
    let one = digit_value_digit (get_or xs i 0) range in
    record {
      digits = list_all_more is_ascii_digit xs i 0 inside ∙ rw (c.loop-byte.invariant.digits, digit) refl;
      value = omega (arith, c.loop-byte.invariant.value, value, one, range, c.from.ensures);
      small = omega (arith, c.loop-byte.invariant.small, range, c.from.ensures, times_ten i);
    }
