use Rattle.std.proofs.Common.{◌≡◌, ◌+◌, ◌-◌, ◌++◌, ◌∷◌, suc, [], length, map, Ok, sym, ap, subst, ◌∙◌, arith, rules}
use Rattle.std.proofs.lemmas.List.{append-nil, map-append}
use Rattle.page_report.specs.Reading.{IsRefusal, animals_from, animals_of, parts, put, said}
use Rattle.page_report.proofs.Animals.{animals_end, animals_more, animals_refused, animals_stop}
use Rattle.page_report.proofs.Refusals.{one_more, passed_on}
use Rattle.page_report.proofs.animal.animals_of.Goals as goal
use Rattle.page_report.proofs.animal.animals_of.Goals.{else-loop-animal-test, then-loop-animal-test+then-is_none}

pub returns-in_err-animal-clause-fault : goal.returns-in_err-animal-clause-fault
returns-in_err-animal-clause-fault c =
    let fault = c.in_err-animal.field-0.0 in
    let xs = map said c.loop-animal.animals.items in
    let left = length c.args.text.now - (c.loop-animal._animal + 1) in
    let lines = parts c.loop-animal.rest.now in
    let more = one_more (length c.args.text.now) c.loop-animal._animal (search rules) in
    let found : animals_of c.args.text.now ≡ put xs (animals_from (suc left) lines) = c.loop-animal.invariant ∙ ap (λ n. put xs (animals_from n lines)) more in
    passed_on _ c.from_residual.result fault (search rules)
    (subst (λ found. IsRefusal found fault) (sym found) (animals_refused xs left lines fault (search rules) (search rules)))

pub loop-animal-preserved : goal.loop-animal-preserved
loop-animal-preserved c =
    let xs = map said c.loop-animal.animals.items in
    let left = length c.args.text.now - (c.loop-animal._animal + 1) in
    let lines = parts c.loop-animal.rest.now in
    let more = one_more (length c.args.text.now) c.loop-animal._animal (search rules) in
    let found : animals_of c.args.text.now ≡ put xs (animals_from (suc left) lines) = c.loop-animal.invariant ∙ ap (λ n. put xs (animals_from n lines)) more in
    let behind = parts c.in_ok-animal.behind.now in
    let all : map said c.push.new.items.items ≡ xs ++ said c.in_ok-animal.animal ∷ [] = ap (map said) c.in_ok-push.ensures.items ∙ map-append said c.loop-animal.animals.items (c.in_ok-animal.animal ∷ []) in
    found ∙ animals_more xs left lines behind (said c.in_ok-animal.animal) (search rules) (search rules) ∙ ap (λ ys. put ys (animals_from left behind)) (sym all)

pub returns-clause-found : goal.returns-clause-found
returns-clause-found c =
    let xs = map said c.loop-animal.animals.items in
    let lines = parts c.loop-animal.rest.now in
    elim c.loop-animal-test.branch [
      | else-loop-animal-test w ↦
          let none : length c.args.text.now - c.loop-animal._animal ≡ 0 = search (rules, arith) in
          c.loop-animal.invariant ∙ ap (λ n. put xs (animals_from n lines)) none ∙ ap (put xs) (animals_end lines) ∙ ap (λ l. Ok (l, lines)) (append-nil xs)
      | then-loop-animal-test+then-is_none w ↦
          c.loop-animal.invariant ∙ ap (put xs) (animals_stop (length c.args.text.now - c.loop-animal._animal) lines (search rules)) ∙ ap (λ l. Ok (l, lines)) (append-nil xs)
    ]
