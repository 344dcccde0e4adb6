use Rattle.std.proofs.Common.{◌≡◌, ◌∙◌, ℕ, ◌++◌, [], Bor, List, None, Some, flat_map, length, map, take, ap, sym, arith}
use Rattle.std.proofs.lemmas.List.{take_all}
use Rattle.std.proofs.lemmas.List.Folds.{flat_map-map}
use Rattle.split_counts.specs.Counts.{left_counts}
use Rattle.split_output.specs.Left.{LeftOut, left_of}
use Rattle.split_output.proofs.left.all_left.Goals as goal

pub returns : goal.returns
returns c =
    λ fates is.
    let animals = c.in-Ok.animals in
    let ranked = c.in_ok-ranked.ranked.items in
    let many : length c.args.split.now.files.items ≡ animals = omega (arith, c.in-Ok.ensures, c.len.ensures, c.args.split.now.files.ok.0) in
    let said : Bor (List ℕ) × ℕ → List LeftOut = λ one. left_of fates one.0.now (Some one.1) in
    let by_pair : ℕ × List ℕ → List LeftOut = λ one. left_of fates one.1 (Some one.0) in
    let all = ap (λ l. flat_map said (take c.loop-name.name-index l)) c.deref-name-items.ensures.value
    ∙ ap (flat_map said) (take_all c.loop-name.name-index ranked (omega (arith, c.loop-name-test.false, ap length c.deref-name-items.ensures.value))) in
    record {
      ranked = map (λ (one : Bor (List ℕ) × ℕ). (one.1, one.0.now)) ranked;
      are_by_name = c.in_ok-ranked.ensures.order;
      are_left = c.loop-name.invariant fates (is ∙ ap (λ n. left_counts n fates) many)
          ∙ ap (λ l. left_of fates [] None ++ l) (all ∙ sym (flat_map-map by_pair (λ (one : Bor (List ℕ) × ℕ). (one.1, one.0.now)) ranked));
    }
