use Rattle.std.proofs.Common.{◌≡◌, ◌+◌, ◌<◌, ◌≤◌, ◌==◌, ◌∷◌, [], ◌++◌, ℕ, length, map, take, get_or, le_of_eq, rules, tests, arith, sym, ap, subst, ◌∙◌}
use Rattle.std.proofs.lemmas.Iterator.Consumers.{YieldsList-end, YieldsList-turn}
use Rattle.std.proofs.lemmas.Iterator.Splits.{YieldsList-from_slice_split}
use Rattle.std.proofs.lemmas.List.{length_push, take_all}
use Rattle.range_options.specs.Limits.{level_count_limit}
use Rattle.range_words.specs.LevelList.{level_in, parts}
use Rattle.range_words.proofs.LevelParts.{bad_part, one_more, too_many}
use Rattle.range_words.proofs.level.read_levels.Goals as goal

pub returns-then-count-eq-LEVEL_COUNT_LIMIT-clause-refused : goal.returns-then-count-eq-LEVEL_COUNT_LIMIT-clause-refused
returns-then-count-eq-LEVEL_COUNT_LIMIT-clause-refused c =
    let all = parts c.args.text.now in
    let n = c.loop-part.count in
    let part = c.in-Some.part.now in
    let chain = YieldsList-from_slice_split _ (λ (b : ℕ). b == 44) c.args.text.now (search rules) (search rules) (search rules)
    (λ x r q k. search (rules, tests)) in
    let turn = YieldsList-turn chain c.loop-part.yielded _ c.loop-part.yielded_by _ _ c.in-Some.part c.in-Some.is c.next.ensures.steps in
    let here = subst (λ (m : ℕ). (m < length all) × (part ≡ get_or all m part)) (sym c.loop-part.invariant.count) turn in
    too_many all n (take n c.loop-part.levels) here.0 c.if-count-eq-LEVEL_COUNT_LIMIT.true c.loop-part.invariant.values

pub returns-in_default-clause-refused : goal.returns-in_default-clause-refused
returns-in_default-clause-refused c =
    let few : c.loop-part.count < level_count_limit = omega arith in
    let all = parts c.args.text.now in
    let n = c.loop-part.count in
    let part = c.in-Some.part.now in
    let chain = YieldsList-from_slice_split _ (λ (b : ℕ). b == 44) c.args.text.now (search rules) (search rules) (search rules)
    (λ x r q k. search (rules, tests)) in
    let turn = YieldsList-turn chain c.loop-part.yielded _ c.loop-part.yielded_by _ _ c.in-Some.part c.in-Some.is c.next.ensures.steps in
    let here = subst (λ (m : ℕ). (m < length all) × (part ≡ get_or all m part)) (sym c.loop-part.invariant.count) turn in
    bad_part all n (take n c.loop-part.levels) part here.0 here.1 few (sym c.level_in.ensures ∙ c.in_default.is) c.loop-part.invariant.values

pub loop-part-preserved : goal.loop-part-preserved
loop-part-preserved c =
    let few : c.loop-part.count + 1 ≤ level_count_limit = omega arith in
    let count : c.loop-part.count + 1 ≡ length (c.loop-part.yielded ++ c.in-Some.part ∷ []) = omega (arith, length_push c.loop-part.yielded c.in-Some.part) in
    let room : c.loop-part.count < length c.loop-part.levels = omega arith in
    let all = parts c.args.text.now in
    let n = c.loop-part.count in
    let part = c.in-Some.part.now in
    let chain = YieldsList-from_slice_split _ (λ (b : ℕ). b == 44) c.args.text.now (search rules) (search rules) (search rules)
    (λ x r q k. search (rules, tests)) in
    let turn = YieldsList-turn chain c.loop-part.yielded _ c.loop-part.yielded_by _ _ c.in-Some.part c.in-Some.is c.next.ensures.steps in
    let here = subst (λ (m : ℕ). (m < length all) × (part ≡ get_or all m part)) (sym c.loop-part.invariant.count) turn in
    record {
      count = count;
      few = few;
      values = one_more all n part c.loop-part.levels c.in-Some-level_in.level here.0 here.1 room
          (sym c.level_in.ensures ∙ c.in-Some-level_in.is) c.loop-part.invariant.values;
    }

pub returns-clause-count : goal.returns-clause-count
returns-clause-count c =
    let all = parts c.args.text.now in
    let chain = YieldsList-from_slice_split _ (λ (b : ℕ). b == 44) c.args.text.now (search rules) (search rules) (search rules)
    (λ x r q k. search (rules, tests)) in
    let end = YieldsList-end chain c.loop-part.yielded _ c.loop-part.yielded_by _ _ c.in-None.is c.next.ensures.steps in
    let whole : c.loop-part.count ≡ length all = c.loop-part.invariant.count ∙ end.1 in
    (whole, c.loop-part.invariant.few)

pub returns-clause-values : goal.returns-clause-values
returns-clause-values c =
    let all = parts c.args.text.now in
    let chain = YieldsList-from_slice_split _ (λ (b : ℕ). b == 44) c.args.text.now (search rules) (search rules) (search rules)
    (λ x r q k. search (rules, tests)) in
    let end = YieldsList-end chain c.loop-part.yielded _ c.loop-part.yielded_by _ _ c.in-None.is c.next.ensures.steps in
    let whole : c.loop-part.count ≡ length all = c.loop-part.invariant.count ∙ end.1 in
    ap (map level_in) (sym (take_all c.loop-part.count all (le_of_eq (sym whole)))) ∙ c.loop-part.invariant.values
