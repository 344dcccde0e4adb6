use Rattle.std.proofs.Common.{◌≡◌, ◌<◌, ◌^◌, ℕ, min, ap, Some, arith}
use Rattle.std.specs.Str.Parse.{digits_value}
use Rattle.split_times.proofs.Values.{nine_digits, number_less}
use Rattle.split_times.proofs.fields.number_in.Goals as goal
use Rattle.split_times.proofs.fields.number_in.Goals.{In_ok-value_of}

exact : (value digits : ℕ) → min 1000000000 value ≡ min 1000000000 digits → digits < 10 ^ 9 → value ≡ digits
exact value digits e few = omega (arith, e, few)

value_is : (c : In_ok-value_of) → c.in_ok-value_of.field-0 ≡ digits_value 10 c.args.digits.now
value_is c = exact c.in_ok-value_of.field-0 (digits_value 10 c.args.digits.now) c.in_ok-value_of.ensures.1 (nine_digits c.args.digits.now c.in_ok-value_of.ensures.0 c.requires)

pub overflow_cast-result : goal.overflow_cast-result
overflow_cast-result c = omega (arith, value_is c, nine_digits c.args.digits.now c.in_ok-value_of.ensures.0 c.requires)

pub returns-clause-value : goal.returns-clause-value
returns-clause-value c = rw c.in_ok-value_of.ensures.0 (ap Some (value_is c))

pub returns-clause-within : goal.returns-clause-within
returns-clause-within c = omega (arith, value_is c, number_less c.args.digits.now c.in_ok-value_of.ensures.0)

pub returns-clause-small : goal.returns-clause-small
returns-clause-small c = omega (arith, value_is c, nine_digits c.args.digits.now c.in_ok-value_of.ensures.0 c.requires)
