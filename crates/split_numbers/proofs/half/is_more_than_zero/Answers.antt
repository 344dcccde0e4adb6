use Rattle.std.proofs.Common.{◌≡◌, ◌<◌, ◌∙◌, length, get_or, true, arith, rules, tests, refl}
use Rattle.std.specs.Char.{is_ascii_digit}
use Rattle.std.specs.Int.{IsInRange}
use Rattle.std.proofs.lemmas.Int.Digits.{digits_value_more}
use Rattle.std.proofs.lemmas.List.Folds.{list_all_more}
use Rattle.std.proofs.lemmas.Str.{digit_value_digit}
use Rattle.split_numbers.proofs.Values.{still_more, more_by_last}
use Rattle.split_numbers.proofs.half.is_more_than_zero.Goals as goal
use Rattle.split_numbers.proofs.half.is_more_than_zero.Goals.{then-more, else-more}

pub loop-byte-preserved : goal.loop-byte-preserved
loop-byte-preserved c =
    let xs = c.args.digits.now in
    let i = c.loop-byte.byte-index in
    let inside : i < length xs = omega arith in
    let digit : is_ascii_digit (get_or xs i 0) ≡ true = search (rules, tests) in
    let range : IsInRange 48 57 (get_or xs i 0) = search (rules, tests) in
    let value = digits_value_more 10 xs i inside in
    let one = digit_value_digit (get_or xs i 0) range in
    record {
      digits = list_all_more is_ascii_digit xs i 0 inside ∙ rw (c.loop-byte.invariant.digits, digit) refl;
      more = elim c.if-more.branch [
        | then-more w ↦ w.more-is ∙ still_more _ _ _ c.loop-byte.more c.loop-byte.invariant.more w.if-more.true value
        | else-more w ↦ w.more-is ∙ more_by_last _ _ _ (get_or xs i 0) c.loop-byte.more c.loop-byte.invariant.more w.if-more.false value one
      ];
    }
