use Rattle.std.proofs.Common.{refl, rules, tests, ℕ, ◌-◌, length}
use Rattle.std.proofs.lemmas.Iterator.{cases_from_all, YieldsList-from_range}
use Rattle.range_plane.specs.Edges.{at}
use Rattle.range_plane.specs.Plane.{IsBefore}
use Rattle.range_plane.proofs.Ranges.{all_in_range}
use Rattle.range_plane.proofs.convex.begin_with_least.Goals as goal

pub returns : goal.returns
returns c =
    let L = c.args.points.now in
    let follows = λ (i : ℕ). IsBefore (at L 0) (at L i) in
    all_in_range 1 (length L) follows _ (cases_from_all _ _ _ follows (λ (i : ℕ). follows i → ⊥) c.all.ensures.ran
    (YieldsList-from_range 1 (length L) (length L - 1) refl refl) (λ x q k. search (rules, tests)) (λ x q k. search (rules, tests)))
