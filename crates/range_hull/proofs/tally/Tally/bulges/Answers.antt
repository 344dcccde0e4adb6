use Rattle.std.proofs.Common.{sym, subst, ◌+◌, ◌*◌, ◌≤◌, arith, rules}
use Rattle.std.proofs.lemmas.Int.{ints}
use Rattle.range_plane.specs.Plane.{turn_limit}
use Rattle.range_hull.specs.Tally.{Count}
use Rattle.range_hull.proofs.tally.Tally.bulges.Goals as goal

pub invariant_of-self : goal.invariant_of-self
invariant_of-self c =
    let b = c.bend-bend.ensures in
    let room : c.self.inside.area + turn_limit ≤ c.self.inside.turns * turn_limit =
    subst (λ (k : Count). k.area + turn_limit ≤ k.turns * turn_limit) (sym c.self.view_is) b.room in
    omega (arith, ints, room, b.bound, c.from.ensures, c.unsigned_abs.ensures.value)

pub returns-clause-gained : goal.returns-clause-gained
returns-clause-gained c = search rules

pub returns-clause-none : goal.returns-clause-none
returns-clause-none c = search rules
