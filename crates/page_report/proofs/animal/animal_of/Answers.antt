use Rattle.std.proofs.Common.{◌≡◌, ◌==◌, ℕ, true, false, List, length, IfErr, IfOk, Ok, refl, sym, ap, subst, inr, rules, tests}
use Rattle.range_estimator.specs.declared.row.Row.{Row}
use Rattle.range_lanes.specs.declared.extent.Extent.{Extent}
use Rattle.page_report.specs.Lines.{box_of, head_of}
use Rattle.page_report.specs.Reading.{IsRefusal, animal_of, one, parts, polygons_of, rows_of, said}
use Rattle.page_report.proofs.Refusals.{first_refused, passed_on, then_found, then_refused}
use Rattle.page_report.proofs.animal.animal_of.Goals as goal

pub returns-in_err-name-clause-fault : goal.returns-in_err-name-clause-fault
unfolding animal_of
returns-in_err-name-clause-fault c =
    passed_on _ c.from_residual.result c.in_err-name.field-0.0 (search rules)
    (first_refused (one head_of (parts c.args.text.now)) _ c.in_err-name.field-0.0 (search rules))

pub returns-in_err-extent-clause-fault : goal.returns-in_err-extent-clause-fault
unfolding animal_of
returns-in_err-extent-clause-fault c =
    let head : List ℕ × ℕ = (c.in_ok-name.name.now, c.in_ok-name.fixes) in
    let boxed = parts c.in_ok-name.rest.now in
    let fault = c.in_err-extent.field-0.0 in
    passed_on _ c.from_residual-in_err-extent.result fault (search rules)
    (then_refused (one head_of (parts c.args.text.now)) _ head boxed fault (search rules)
    (first_refused (one (box_of head.0) boxed) _ fault (search rules)))

pub returns-in_err-rows-clause-fault : goal.returns-in_err-rows-clause-fault
unfolding animal_of
returns-in_err-rows-clause-fault c =
    let head : List ℕ × ℕ = (c.in_ok-name.name.now, c.in_ok-name.fixes) in
    let boxed = parts c.in_ok-name.rest.now in
    let rowed = parts c.in_ok-extent.rest.now in
    let fault = c.in_err-rows.field-0.0 in
    passed_on _ c.from_residual-in_err-rows.result fault (search rules)
    (then_refused (one head_of (parts c.args.text.now)) _ head boxed fault (search rules)
    (then_refused (one (box_of head.0) boxed) _ c.in_ok-extent.extent rowed fault (search rules)
    (first_refused (rows_of head.0 0 rowed) _ fault (search rules))))

pub returns-then-len-fixes-clause-fault : goal.returns-then-len-fixes-clause-fault
unfolding animal_of
returns-then-len-fixes-clause-fault c =
    let head : List ℕ × ℕ = (c.in_ok-name.name.now, c.in_ok-name.fixes) in
    let boxed = parts c.in_ok-name.rest.now in
    let rowed = parts c.in_ok-extent.rest.now in
    let fault = c.refused.result in
    let differ : (length c.in_ok-rows.rows.items == c.in_ok-name.fixes) ≡ false = search (rules, tests) in
    then_refused (one head_of (parts c.args.text.now)) _ head boxed fault (search rules)
    (then_refused (one (box_of head.0) boxed) _ c.in_ok-extent.extent rowed fault (search rules)
    (then_refused (rows_of head.0 0 rowed) _ c.in_ok-rows.rows.items (parts c.in_ok-rows.rest.now) fault (search rules)
    (rw differ (inr (length (parts c.in_ok-rows.rest.now), refl, c.refused.ensures)))))

-- where heads, box and rows are as they are, an animal is what its polygons say
all_behind : (lines boxed rowed others : List (List ℕ)) (name : List ℕ) (fixes : ℕ) (extent : Extent) (rows : List Row) (own : List ℕ) → one head_of lines ≡ Ok ((name, fixes), boxed)
    → one (box_of name) boxed ≡ Ok (extent, rowed) → rows_of name 0 rowed ≡ Ok (rows, others) → (length rows == fixes) ≡ true → own ≡ name
    → polygons_of own extent rows others ≡ animal_of lines
unfolding animal_of
all_behind lines boxed rowed others name fixes extent rows own head box rowed_is same is =
    sym (then_found (one head_of lines) _ (name, fixes) boxed _ head
    (then_found (one (box_of name) boxed) _ extent rowed _ box
    (then_found (rows_of name 0 rowed) _ rows others _ rowed_is (rw same (ap (λ n. polygons_of n extent rows others) (sym is))))))

pub returns-in-Ok-clause-found : goal.returns-in-Ok-clause-found
returns-in-Ok-clause-found c =
    let same : (length c.in_ok-rows.rows.items == c.in_ok-name.fixes) ≡ true = search (rules, tests) in
    let all = all_behind (parts c.args.text.now) (parts c.in_ok-name.rest.now) (parts c.in_ok-extent.rest.now) (parts c.in_ok-rows.rest.now)
    c.in_ok-name.name.now c.in_ok-name.fixes c.in_ok-extent.extent c.in_ok-rows.rows.items c.in-Ok.name.items
    (search rules) (search rules) (search rules) same (search rules) in
    subst (λ found. IfOk c.polygons_of.result (λ own. found ≡ Ok (said own.0, parts own.1.now))) all c.polygons_of.ensures.found

pub returns-in-Ok-clause-fault : goal.returns-in-Ok-clause-fault
returns-in-Ok-clause-fault c =
    let same : (length c.in_ok-rows.rows.items == c.in_ok-name.fixes) ≡ true = search (rules, tests) in
    let all = all_behind (parts c.args.text.now) (parts c.in_ok-name.rest.now) (parts c.in_ok-extent.rest.now) (parts c.in_ok-rows.rest.now)
    c.in_ok-name.name.now c.in_ok-name.fixes c.in_ok-extent.extent c.in_ok-rows.rows.items c.in-Ok.name.items
    (search rules) (search rules) (search rules) same (search rules) in
    subst (λ found. IfErr c.polygons_of.result (IsRefusal found)) all c.polygons_of.ensures.fault
