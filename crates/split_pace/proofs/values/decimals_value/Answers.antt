use Rattle.std.proofs.Common.{subst, sym, length, ◌^◌, ◌<◌}
use Rattle.split_numbers.proofs.Values.{value_less}
use Rattle.split_pace.proofs.Decimals.{value_is}
use Rattle.split_pace.proofs.values.decimals_value.Goals as goal

pub returns-in-Some-clause-value : goal.returns-in-Some-clause-value
returns-in-Some-clause-value c = value_is c.args.digits.now c.in-Some.value c.requires.digits c.requires.few c.in-Some.ensures.1

pub returns-in-Some-clause-small : goal.returns-in-Some-clause-small
returns-in-Some-clause-small c =
    let value = value_is c.args.digits.now c.in-Some.value c.requires.digits c.requires.few c.in-Some.ensures.1 in
    subst (λ n. n < 10 ^ length c.args.digits.now) (sym value) (value_less c.args.digits.now c.requires.digits)
