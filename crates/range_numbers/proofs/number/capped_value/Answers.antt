use Rattle.std.proofs.Common.{◌≡◌, ◌<◌, true, length, get_or, nat_lt, rules, arith, tests, refl}
use Rattle.std.specs.Char.{is_ascii_digit}
use Rattle.std.specs.Int.{IsInRange}
use Rattle.std.specs.List.{list_all}
use Rattle.std.proofs.lemmas.Bool.{and_parts}
use Rattle.std.proofs.lemmas.Int.Digits.{digits_value_more}
use Rattle.std.proofs.lemmas.Str.{digit_value_digit}
use Rattle.std.proofs.lemmas.List.Recursion.{and_at}
use Rattle.range_numbers.proofs.number.capped_value.Goals as goal

pub loop-digit-preserved : goal.loop-digit-preserved
loop-digit-preserved c =
    let xs = c.args.digits.now in
    let i = c.loop-digit.digit-index in
    let inside : i < length xs = omega arith in
    let digit : is_ascii_digit (get_or xs i 0) ≡ true = and_at (list_all is_ascii_digit) is_ascii_digit refl (λ _ _. refl) xs i 0 inside
    ((and_parts (nat_lt 0 (length xs)) _ c.requires.digits).1) in
    let range : IsInRange 48 57 (get_or xs i 0) = search (rules, tests) in
    let more = digits_value_more 10 xs i inside in
    let value = digit_value_digit (get_or xs i 0) range in
    omega arith
