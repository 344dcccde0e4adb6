use Rattle.std.proofs.Common.{subst, sym, length, ◌*◌, ◌<◌}
use Rattle.split_pace.proofs.Decimals.{millionths_less}
use Rattle.split_pace.proofs.values.decimal_millionths.Goals as goal

pub returns-clause-small : goal.returns-clause-small
returns-clause-small c =
    subst (λ n. c.decimals_value.result * n < 1_000_000) (sym c.pow.ensures) (millionths_less c.decimals_value.result (length c.args.digits.now) c.requires.few c.decimals_value.ensures.small)
