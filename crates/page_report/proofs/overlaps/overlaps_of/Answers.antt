use Rattle.std.proofs.Common.{◌≡◌, ◌+◌, ◌-◌, length, map, Ok, sym, ap, subst, ◌∙◌, arith, rules}
use Rattle.std.proofs.lemmas.List.{append-nil}
use Rattle.page_report.specs.Reading.{IsRefusal, overlaps_from, parts, put}
use Rattle.page_report.proofs.Ranges.{overlaps_end, overlaps_more, overlaps_refused}
use Rattle.page_report.proofs.Refusals.{one_more, passed_on}
use Rattle.page_report.proofs.overlaps.overlaps_of.Goals as goal

pub returns-in_err-own-clause-fault : goal.returns-in_err-own-clause-fault
returns-in_err-own-clause-fault c =
    let names = map (λ animal. animal.name.items) c.args.animals.now in
    let all = length c.args.animals.now in
    let fault = c.in_err-own.field-0.0 in
    let lines = parts c.loop-animal.rest.now in
    let more = one_more all c.loop-animal.animal (search rules) in
    passed_on _ c.from_residual.result fault (search rules)
    (subst (λ found. IsRefusal found fault)
    (sym (c.loop-animal.invariant ∙ ap (λ n. put c.loop-animal.overlaps.items (overlaps_from names all c.loop-animal.animal n lines)) more))
    (overlaps_refused names all c.loop-animal.animal (all - (c.loop-animal.animal + 1)) c.loop-animal.overlaps.items lines fault (search rules)))

pub loop-animal-preserved : goal.loop-animal-preserved
loop-animal-preserved c =
    let names = map (λ animal. animal.name.items) c.args.animals.now in
    let all = length c.args.animals.now in
    let lines = parts c.loop-animal.rest.now in
    let left = all - (c.loop-animal.animal + 1) in
    let more = one_more all c.loop-animal.animal (search rules) in
    c.loop-animal.invariant ∙ ap (λ n. put c.loop-animal.overlaps.items (overlaps_from names all c.loop-animal.animal n lines)) more
    ∙ overlaps_more names all c.loop-animal.animal left c.loop-animal.overlaps.items c.in_ok-own.own.items lines (parts c.in_ok-own.behind.now) (search rules)
    ∙ ap (λ ys. put ys (overlaps_from names all (c.loop-animal.animal + 1) left (parts c.in_ok-own.behind.now))) (search rules)

pub returns-clause-found : goal.returns-clause-found
returns-clause-found c =
    let names = map (λ animal. animal.name.items) c.args.animals.now in
    let all = length c.args.animals.now in
    let lines = parts c.loop-animal.rest.now in
    let none : all - c.loop-animal.animal ≡ 0 = search (rules, arith) in
    c.loop-animal.invariant ∙ ap (λ n. put c.loop-animal.overlaps.items (overlaps_from names all c.loop-animal.animal n lines)) none
    ∙ ap (put c.loop-animal.overlaps.items) (overlaps_end names all c.loop-animal.animal lines) ∙ ap (λ l. Ok (l, lines)) (append-nil c.loop-animal.overlaps.items)
