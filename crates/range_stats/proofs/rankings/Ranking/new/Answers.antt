use Rattle.std.proofs.Common.{◌≡◌, List, ℕ, [], length, subst, ◌∙◌}
use Rattle.range_stats.specs.Keys.{IsCutAdded}
use Rattle.range_stats.proofs.RankIndices.{keys, indices_of_cut, ranking_of_cut}
use Rattle.range_stats.proofs.rankings.Ranking.new.Goals as goal

-- what was added to no indices
added_to_none : (levels : List ℕ) (n count : ℕ) (keys made old new : List ℕ) → old ≡ [] → made ≡ keys → count ≡ n → IsCutAdded levels count made old new
    → IsCutAdded levels n keys [] new
added_to_none levels n count keys made old new none same number added =
    subst (λ m. IsCutAdded levels m keys [] new) number
    (subst (λ (l : List ℕ). IsCutAdded levels count l [] new) same (subst (λ (l : List ℕ). IsCutAdded levels count made l new) none added))

pub invariant_of-result : goal.invariant_of-result
invariant_of-result g c =
    let points = c.args.fixes.now.points in
    let new = c.push_cut.new.indices.items in
    indices_of_cut points c.args.levels.now new c.requires
    (added_to_none c.args.levels.now (length points) c.len-2.result (keys points) c.deref_mut.result.now _ new c.in_ok-indices.ensures.items
    (c.deref_mut.ensures.value ∙ c.in_ok-keys.ensures) c.len-2.ensures c.push_cut.ensures.items)

pub returns : goal.returns
returns g c =
    let points = c.args.fixes.now.points in
    let new = c.push_cut.new.indices.items in
    ranking_of_cut points c.args.levels.now new c.requires
    (added_to_none c.args.levels.now (length points) c.len-2.result (keys points) c.deref_mut.result.now _ new c.in_ok-indices.ensures.items
    (c.deref_mut.ensures.value ∙ c.in_ok-keys.ensures) c.len-2.ensures c.push_cut.ensures.items)
