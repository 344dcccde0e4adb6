-- A law of influence, the contract of a function of `src/laws.rt`.
use Rattle.std.specs.Prelude.{◌≡◌, List, Option}
use Rattle.range_plane.specs.Plane.{Position}
use Rattle.page_influence.specs.Influence.{IsInfluence}
use Rattle.page_influence.specs.declared.influence.Influence.{Influence}

abbrev pub FixesHaveOneInfluence : Type 0
FixesHaveOneInfluence = (points : List Position) (one other : Option Influence) → IsInfluence points one → IsInfluence points other → one ≡ other
