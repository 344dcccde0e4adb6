use Rattle.std.proofs.Common.{◌≡◌, ◌∷◌, Some, None, if◌then◌else◌, true, nat_lt, sym, ◌∙◌, arith, rules, tests}
use Rattle.std.specs.Char.{is_ascii_digit}
use Rattle.std.specs.Int.{IsInRange}
use Rattle.std.specs.List.{list_all}
use Rattle.std.specs.Str.Parse.{digits_value}
use Rattle.std.specs.declared.cmp.Ordering.{Ordering}
use Rattle.std.specs.declared.cmp.Ordering.TheVariants.{Less, Equal, Greater}
use Rattle.split_numbers.specs.Digits.{against_half}
use Rattle.split_numbers.proofs.Conditions.{condition_of, value_of}
use Rattle.split_numbers.proofs.Halves.{of_none, first_less, first_greater, five_and_more, five_and_zeros, of_all}
use Rattle.split_numbers.proofs.half.against_half.Goals as goal
use Rattle.split_numbers.proofs.half.against_half.Goals.{In_ok-more}

pub returns-in_default : goal.returns-in_default
returns-in_default c = of_none c.args.digits.now c.in_default.ensures.cases

range_of : (c : In_ok-more) → IsInRange 48 57 c.in-Some.first.now
range_of c = search (rules, tests)

digit_of : (c : In_ok-more) → is_ascii_digit c.in-Some.first.now ≡ true
digit_of c = search (rules, tests)

others_of : (c : In_ok-more) → list_all is_ascii_digit c.in-Some.others.now ≡ true
others_of c = condition_of (list_all is_ascii_digit c.in-Some.others.now) c.in_ok-more.more (nat_lt 0 (digits_value 10 c.in-Some.others.now)) c.in_ok-more.ensures

more_of : (c : In_ok-more) → c.in_ok-more.more ≡ nat_lt 0 (digits_value 10 c.in-Some.others.now)
more_of c = value_of (list_all is_ascii_digit c.in-Some.others.now) c.in_ok-more.more (nat_lt 0 (digits_value 10 c.in-Some.others.now)) c.in_ok-more.ensures

found : (c : In_ok-more) (half : Ordering) → against_half (c.in-Some.first.now ∷ c.in-Some.others.now) ≡ half
    → Some half ≡ (if list_all is_ascii_digit c.args.digits.now then Some (against_half c.args.digits.now) else None)
found c half e = of_all c.args.digits.now c.in-Some.first.now c.in-Some.others.now half c.in-Some.ensures.cases.0 (digit_of c) (others_of c) e

pub returns-then-first-lt53 : goal.returns-then-first-lt53
returns-then-first-lt53 c =
    let at = (goal.at.returns-then-first-lt53 c).In_ok-more in
    found at Less (first_less c.in-Some.first.now c.in-Some.others.now (range_of at) (others_of at) c.if-first-lt53.true)

pub returns-then-first-gt53 : goal.returns-then-first-gt53
returns-then-first-gt53 c =
    let at = (goal.at.returns-then-first-gt53 c).In_ok-more in
    found at Greater (first_greater c.in-Some.first.now c.in-Some.others.now (range_of at) (others_of at) c.if-first-gt53.true)

pub returns-then-more : goal.returns-then-more
returns-then-more c =
    let at = (goal.at.returns-then-more c).In_ok-more in
    found at Greater (five_and_more c.in-Some.first.now c.in-Some.others.now (range_of at) (others_of at) (omega arith) (sym (more_of at) ∙ c.if-more.true))

pub returns-else-more : goal.returns-else-more
returns-else-more c =
    let at = (goal.at.returns-else-more c).In_ok-more in
    found at Equal (five_and_zeros c.in-Some.first.now c.in-Some.others.now (range_of at) (others_of at) (omega arith) (sym (more_of at) ∙ c.if-more.false))
