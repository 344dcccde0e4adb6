use Rattle.std.proofs.Common.{◌≡◌, ◌-◌, ◌++◌, length, sym, arith}
use Rattle.std.proofs.lemmas.List.{take-append-drop}
use Rattle.range_numbers.proofs.Long.{number_of_both, value_of_both, value_of_few}
use Rattle.range_numbers.proofs.number.long_value.Goals as goal

pub overflow_mul-result : goal.overflow_mul-result
overflow_mul-result c =
    let first = value_of_few c.split_at.result.0.now c.in_ok-short_value.ensures.0 (omega (arith, c.split_at.ensures.front_len, c.requires.long)) in
    omega (arith, first, c.in_ok-short_value.ensures.1)

pub overflow_add-result : goal.overflow_add-result
overflow_add-result c =
    let first = value_of_few c.split_at.result.0.now c.in_ok-short_value.ensures.0 (omega (arith, c.split_at.ensures.front_len, c.requires.long)) in
    let last = value_of_few c.split_at.result.1.now c.in_ok-short_value-2.ensures.0 (omega (arith, c.split_at.ensures.back_len, c.requires.more)) in
    omega (arith, first, last, c.in_ok-short_value.ensures.1, c.in_ok-short_value-2.ensures.1)

pub returns : goal.returns
returns c =
    let first = c.split_at.result.0.now in
    let last = c.split_at.result.1.now in
    let whole : first ++ last ≡ c.args.bytes.now =
    rw (c.split_at.ensures.front, c.split_at.ensures.back) (take-append-drop (length c.args.bytes.now - 8) c.args.bytes.now) in
    let eight : length last ≡ 8 = omega (arith, c.split_at.ensures.back_len, c.requires.more) in
    let one = c.in_ok-short_value.ensures in
    let two = c.in_ok-short_value-2.ensures in (
      rw whole at (number_of_both first last one.0 two.0),
      rw (one.1, two.1) (rw whole at (sym (value_of_both first last eight))),
    )
