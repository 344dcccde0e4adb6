use Rattle.std.proofs.Common.{◌-ℤ◌, map, replicate, ap, sym, subst, ◌∙◌, lit<}
use lib.Lanes.{zip2, Each1}
use Rattle.range_plane.specs.Plane.{Position, coordinate_limit}
use Rattle.range_lemmas.proofs.Sizes.{kept}
use Rattle.range_lanes.specs.Lanes.{IsBounded}
use Rattle.range_lanes.proofs.Eights.{less_value, less_small, moved_n}
use Rattle.range_lanes.proofs.eight.Eight.north_of.Goals as goal

pub returns-clause-value : goal.returns-clause-value
returns-clause-value c =
    let es = c.self.inside.eastings in
    let ns = c.self.inside.northings in
    c.minus.ensures ∙ ap (zip2 ◌-ℤ◌ ns) (c.splat.ensures ∙ ap (replicate 8) (kept coordinate_limit (lit< tt) c.args.n c.requires))
    ∙ less_value c.args.n ns c.self.invariant.1
    ∙ moved_n (λ y. y -ℤ c.args.n) es ns (c.self.invariant.0 ∙ sym c.self.invariant.1)
    ∙ ap (map (λ (p : Position). p.n -ℤ c.args.n)) c.self.view_is

pub returns-clause-small : goal.returns-clause-small
returns-clause-small c =
    let ns = c.self.inside.northings in
    subst (Each1 (IsBounded coordinate_limit)) (sym (c.minus.ensures
    ∙ ap (zip2 ◌-ℤ◌ ns) (c.splat.ensures ∙ ap (replicate 8) (kept coordinate_limit (lit< tt) c.args.n c.requires))
    ∙ less_value c.args.n ns c.self.invariant.1))
    (less_small c.args.n ns c.requires c.self.invariant.3)
