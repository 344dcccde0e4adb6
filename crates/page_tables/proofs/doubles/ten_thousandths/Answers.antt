use Rattle.std.proofs.Common.{◌<◌, ◌^◌, ◌∙◌, ap, subst, sym}
use Rattle.page_tables.specs.Doubles.{even_rounded}
use Rattle.page_tables.proofs.DoubleFacts.{even_below}
use Rattle.page_tables.proofs.doubles.ten_thousandths.Goals as goal

pub times_ten_thousand-requires : goal.times_ten_thousand-requires
times_ten_thousand-requires c =
    subst (λ scaled. scaled < 2 ^ 66) (sym (c.even_rounded-scaled.ensures ∙ ap (even_rounded c.doubled-doubled.result.part) c.from-2.ensures))
    (even_below c.doubled-doubled.result.part c.args.whole c.requires c.doubled-doubled.ensures.most)
