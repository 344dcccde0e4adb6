use Rattle.std.proofs.Common.{◌≡◌, All, take, rules, arith, sym, subst, true}
use Rattle.std.proofs.lemmas.List.{take_all, take_more}
use Rattle.std.proofs.lemmas.List.Elements.{All-push}
use Rattle.page_levels.specs.Kept.{IsRowOfFirst}
use Rattle.page_levels.proofs.percents.check_percents.Goals as goal

pub loop-row-preserved : goal.loop-row-preserved
loop-row-preserved c =
    let rows = c.args.rows.now in
    let i = c.loop-row.row-index in
    let P = IsRowOfFirst c.args.ranked.now in
    let yes : c.in_ok-is_row.field-0 ≡ true = search rules in
    subst (All P) (sym (take_more rows i _ c.loop-row-test.true)) (All-push P (take i rows) _ c.loop-row.invariant (c.in_ok-is_row.ensures.0 yes))

pub returns-clause-rows : goal.returns-clause-rows
returns-clause-rows c =
    let rows = c.args.rows.now in
    subst (All (IsRowOfFirst c.args.ranked.now)) (take_all c.loop-row.row-index rows (omega (arith, c.loop-row-test.false))) c.loop-row.invariant
