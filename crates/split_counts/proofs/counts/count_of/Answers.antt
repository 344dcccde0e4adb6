use Rattle.std.proofs.Common.{◌∙◌, ap, length, rules}
use Rattle.std.proofs.lemmas.Bool.Decides.{nat_tests}
use Rattle.split_counts.proofs.Slots.{count_is, counted, counts_long, slot_within}
use Rattle.split_counts.proofs.counts.count_of.Goals as goal

pub returns-in-Some : goal.returns-in-Some
returns-in-Some c = λ fates is.
    let one = c.if-is_one_of.ensures in
    rw (← one) (counted c.args.animals fates c.args.animal c.args.reason c.args.counts.now c.slot_of.result c.in-Some.count.now one is c.slot_of.ensures c.in-Some.ensures.lookup.1
    ∙ count_is c.args.animals fates c.args.animal c.args.reason one)

pub returns-in-None : goal.returns-in-None
returns-in-None c = λ fates is.
    let within = slot_within c.args.animals c.args.animal c.args.reason c.if-is_one_of.ensures in
    absurd (search (rules, nat_tests, c.in-None.ensures.lookup.0, c.slot_of.ensures, within, ap length is, counts_long c.args.animals fates))
