use Rattle.std.proofs.Common.{◌≡◌, ◌+◌, ◌-◌, ◌==◌, true, false, length, map, Ok, sym, ap, subst, ◌∙◌, arith, rules, tests}
use Rattle.std.proofs.lemmas.List.{append-nil}
use Rattle.page_report.specs.Reading.{IsRefusal, parts, put, ranges_from}
use Rattle.page_report.proofs.Ranges.{ranges_end, ranges_more, ranges_own, ranges_refused}
use Rattle.page_report.proofs.Refusals.{one_more, passed_on}
use Rattle.page_report.proofs.overlaps.ranges_of.Goals as goal
use Rattle.page_report.proofs.overlaps.ranges_of.Goals.{then-range-animal+in_ok-overlap+in_ok-push, else-range-animal}

pub returns-in_err-overlap-clause-fault : goal.returns-in_err-overlap-clause-fault
returns-in_err-overlap-clause-fault c =
    let names = map (λ animal. animal.name.items) c.args.animals.now in
    let fault = c.in_err-overlap.field-0.0 in
    let left = length c.args.animals.now - (c.loop-range.range + 1) in
    let lines = parts c.loop-range.rest.now in
    let more = one_more (length c.args.animals.now) c.loop-range.range (search rules) in
    let other : (c.loop-range.range == c.args.animal) ≡ false = search (rules, tests) in
    passed_on _ c.from_residual.result fault (search rules)
    (subst (λ found. IsRefusal found fault)
    (sym (c.loop-range.invariant ∙ ap (λ n. put c.loop-range.overlaps.items (ranges_from names c.args.animal c.loop-range.range n lines)) more))
    (ranges_refused names c.args.animal c.loop-range.range left c.loop-range.overlaps.items lines fault other (search rules)))

pub loop-range-preserved : goal.loop-range-preserved
loop-range-preserved c =
    let names = map (λ animal. animal.name.items) c.args.animals.now in
    let left = length c.args.animals.now - (c.loop-range.range + 1) in
    let lines = parts c.loop-range.rest.now in
    let more = one_more (length c.args.animals.now) c.loop-range.range (search rules) in
    let so_far = c.loop-range.invariant ∙ ap (λ n. put c.loop-range.overlaps.items (ranges_from names c.args.animal c.loop-range.range n lines)) more in
    elim c.if-range-animal.branch [
      | then-range-animal+in_ok-overlap+in_ok-push w ↦
          let other : (c.loop-range.range == c.args.animal) ≡ false = search (rules, tests) in
          rw (w.overlaps-is, w.rest-is) (so_far
          ∙ ranges_more names c.args.animal c.loop-range.range left c.loop-range.overlaps.items lines (parts w.in_ok-overlap.behind.now) w.in_ok-overlap.overlap other (search rules)
          ∙ ap (λ ys. put ys (ranges_from names c.args.animal (c.loop-range.range + 1) left (parts w.in_ok-overlap.behind.now))) (sym w.in_ok-push.ensures.items))
      | else-range-animal w ↦
          let own : (c.loop-range.range == c.args.animal) ≡ true = search (rules, tests) in
          rw (w.overlaps-is, w.rest-is) (so_far ∙ ap (put c.loop-range.overlaps.items) (ranges_own names c.args.animal c.loop-range.range left lines own))
    ]

pub returns-clause-found : goal.returns-clause-found
returns-clause-found c =
    let names = map (λ animal. animal.name.items) c.args.animals.now in
    let lines = parts c.loop-range.rest.now in
    let none : length c.args.animals.now - c.loop-range.range ≡ 0 = search (rules, arith) in
    c.loop-range.invariant ∙ ap (λ n. put c.loop-range.overlaps.items (ranges_from names c.args.animal c.loop-range.range n lines)) none
    ∙ ap (put c.loop-range.overlaps.items) (ranges_end names c.args.animal c.loop-range.range lines) ∙ ap (λ l. Ok (l, lines)) (append-nil c.loop-range.overlaps.items)
