use Rattle.std.proofs.Common.{refl, rules, tests, ℕ, ◌-◌, length}
use Rattle.std.proofs.lemmas.Iterator.{cases_from_all, YieldsList-from_range}
use Rattle.range_plane.specs.Edges.{TurnsLeftAt}
use Rattle.range_plane.proofs.Ranges.{all_in_range}
use Rattle.range_plane.proofs.convex.turn_left_throughout.Goals as goal

pub returns : goal.returns
returns c =
    let L = c.args.points.now in
    all_in_range 2 (length L) (TurnsLeftAt L) _ (cases_from_all _ _ _ (TurnsLeftAt L) (λ (i : ℕ). TurnsLeftAt L i → ⊥) c.all.ensures.ran
    (YieldsList-from_range 2 (length L) (length L - 2) refl refl) (λ x q k. search (rules, tests)) (λ x q k. search (rules, tests)))
