use Rattle.std.proofs.Common.{◌∙◌, ◌+◌, List, sym, ap, inr, drop, drop_of_length-le, arith}
use Rattle.std.proofs.lemmas.List.{drop_more}
use Rattle.split_reading.specs.declared.ledger.Row.{Row}
use Rattle.split_fates.specs.Fates.{fates_from}
use Rattle.split_fates.proofs.FateFacts.{fates_end, fates_fail, fates_more, with_fates}
use Rattle.split_fates.proofs.fates.fates_of.Goals as goal

pub returns-in-Err-clause-fault : goal.returns-in-Err-clause-fault
returns-in-Err-clause-fault g c =
    let l = c.loop-index in
    let rows = c.args.rows.now in
    let choice = c.args.choice.now in
    inr (inr (l.invariant ∙ (ap (λ (rest : List Row). with_fates l.fates.items (fates_from choice l.index rest)) (drop_more rows l.index _ c.loop-index-test.true)
    ∙ fates_fail choice l.index l.fates.items _ (drop (l.index + 1) rows) c.in-Err.fault (sym c.fate_of.ensures ∙ c.in-Err.is))))

pub loop-index-preserved : goal.loop-index-preserved
loop-index-preserved g c =
    let l = c.loop-index in
    let rows = c.args.rows.now in
    let choice = c.args.choice.now in
    l.invariant ∙ (ap (λ (rest : List Row). with_fates l.fates.items (fates_from choice l.index rest)) (drop_more rows l.index _ c.loop-index-test.true)
    ∙ (fates_more choice l.index l.fates.items _ (drop (l.index + 1) rows) c.in-Ok.fate (sym c.fate_of.ensures ∙ c.in-Ok.is)
    ∙ ap (λ done. with_fates done (fates_from choice (l.index + 1) (drop (l.index + 1) rows))) (sym c.in_ok-push_fate.ensures)))

pub returns-clause-fates : goal.returns-clause-fates
returns-clause-fates g c =
    let l = c.loop-index in
    l.invariant ∙ (ap (λ (rest : List Row). with_fates l.fates.items (fates_from c.args.choice.now l.index rest)) (drop_of_length-le c.args.rows.now (omega (arith, c.loop-index-test.false)))
    ∙ fates_end c.args.choice.now l.index l.fates.items)
