use Rattle.range_plane.proofs.ForCallers.{none_covers_nothing, one_covers_itself, two_cover_their_segment}
use Rattle.range_plane.proofs.laws.few_cover_little.Goals as goal

pub returns-clause-none : goal.returns-clause-none
returns-clause-none c = none_covers_nothing

pub returns-clause-one : goal.returns-clause-one
returns-clause-one c = one_covers_itself

pub returns-clause-two : goal.returns-clause-two
returns-clause-two c = two_cover_their_segment
