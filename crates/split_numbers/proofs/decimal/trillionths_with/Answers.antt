use Rattle.std.proofs.Common.{◌≡◌, ◌+◌, ◌*◌, ◌<◌, ◌∙◌, true, false, arith, refl}
use Rattle.std.specs.Str.Parse.{digits_value}
use Rattle.range_numbers.specs.Number.{is_number}
use Rattle.split_numbers.specs.Decimal.{twelve_of}
use Rattle.split_numbers.proofs.Twelve.{all_of_drop, below_limit, twelve_is_number, twelve_less}
use Rattle.split_numbers.proofs.decimal.trillionths_with.Goals as goal
use Rattle.split_numbers.proofs.decimal.trillionths_with.Goals.{In_ok-trillionths}

-- what was found is the value of the twelve digits
value : (c : In_ok-trillionths) → c.in_ok-trillionths.trillionths ≡ digits_value 10 (twelve_of c.args.behind.now)
value c =
    below_limit (digits_value 10 (twelve_of c.args.behind.now)) c.in_ok-trillionths.trillionths 1_000_000_000_001
    (rw (← c.twelve_of.ensures) c.in_ok-trillionths.ensures.1) (omega (arith, twelve_less c.args.behind.now c.requires.digits))

pub returns-in_err-trillionths : goal.returns-in_err-trillionths
returns-in_err-trillionths c = cc (twelve_is_number c.args.behind.now c.requires.digits, c.in_err-trillionths.ensures)

pub overflow_add-whole : goal.overflow_add-whole
overflow_add-whole c =
    omega (arith, value (goal.at.overflow_add-whole c).In_ok-trillionths, twelve_less c.args.behind.now c.requires.digits, c.requires.few)

pub rounded-requires : goal.rounded-requires
rounded-requires c =
    omega (arith, value (goal.at.rounded-requires c).In_ok-trillionths, twelve_less c.args.behind.now c.requires.digits, c.requires.few)

pub returns : goal.returns
returns c =
    c.rounded.ensures ∙ rw (c.behind_twelve.ensures, value (goal.at.returns c).In_ok-trillionths, all_of_drop 12 c.args.behind.now c.requires.digits) refl
