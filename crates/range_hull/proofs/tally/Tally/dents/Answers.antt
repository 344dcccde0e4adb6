use Rattle.std.proofs.Common.{sym, subst, ◌+◌, ◌*◌, ◌≤◌, arith, rules}
use Rattle.std.proofs.lemmas.Int.{ints}
use Rattle.range_plane.specs.Plane.{turn_limit}
use Rattle.range_hull.specs.Tally.{Count}
use Rattle.range_hull.proofs.tally.Tally.dents.Goals as goal

pub invariant_of-self : goal.invariant_of-self
invariant_of-self c =
    let b = c.bend-bend.ensures in
    let room : c.self.inside.area + turn_limit ≤ c.self.inside.turns * turn_limit =
    subst (λ (k : Count). k.area + turn_limit ≤ k.turns * turn_limit) (sym c.self.view_is) b.room in
    omega (arith, ints, room, b.bound, c.from.ensures, c.unsigned_abs.ensures.value)

pub returns-clause-no : goal.returns-clause-no
returns-clause-no c = search rules
