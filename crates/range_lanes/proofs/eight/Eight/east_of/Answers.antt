use Rattle.std.proofs.Common.{◌-ℤ◌, map, replicate, ap, sym, subst, ◌∙◌, lit<}
use lib.Lanes.{zip2, Each1}
use Rattle.range_plane.specs.Plane.{Position, coordinate_limit}
use Rattle.range_lemmas.proofs.Sizes.{kept}
use Rattle.range_lanes.specs.Lanes.{IsBounded}
use Rattle.range_lanes.proofs.Eights.{less_value, less_small, moved_e}
use Rattle.range_lanes.proofs.eight.Eight.east_of.Goals as goal

pub returns-clause-value : goal.returns-clause-value
returns-clause-value c =
    let es = c.self.inside.eastings in
    let ns = c.self.inside.northings in
    c.minus.ensures ∙ ap (zip2 ◌-ℤ◌ es) (c.splat.ensures ∙ ap (replicate 8) (kept coordinate_limit (lit< tt) c.args.e c.requires))
    ∙ less_value c.args.e es c.self.invariant.0
    ∙ moved_e (λ y. y -ℤ c.args.e) es ns (c.self.invariant.0 ∙ sym c.self.invariant.1)
    ∙ ap (map (λ (p : Position). p.e -ℤ c.args.e)) c.self.view_is

pub returns-clause-small : goal.returns-clause-small
returns-clause-small c =
    let es = c.self.inside.eastings in
    subst (Each1 (IsBounded coordinate_limit)) (sym (c.minus.ensures
    ∙ ap (zip2 ◌-ℤ◌ es) (c.splat.ensures ∙ ap (replicate 8) (kept coordinate_limit (lit< tt) c.args.e c.requires))
    ∙ less_value c.args.e es c.self.invariant.0))
    (less_small c.args.e es c.requires c.self.invariant.2)
