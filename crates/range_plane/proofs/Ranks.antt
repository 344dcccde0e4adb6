-- The order of points within the limits as the order of numbers.
use Rattle.std.proofs.Common.{◌≡◌, ap, ◌≤ℤ◌, ◌<ℤ◌, arith}
use Rattle.std.proofs.lemmas.Int.{ints}
use Rattle.range_plane.specs.Order.{rank, rank_base}
use Rattle.range_plane.specs.Plane.{Position, IsAtMost, IsBefore, IsWithinLimits}
use Rattle.range_lemmas.proofs.Integers.{linear}
use Rattle.range_lemmas.proofs.Numbered.{by_one_number}

-- ranks say which of two points within the limits comes first
pub at_most_by_rank : (a b : Position) → IsWithinLimits a → IsWithinLimits b → rank a ≤ℤ rank b → IsAtMost a b
unfolding rank
at_most_by_rank a b h k le = by_one_number rank_base a.e a.n b.e b.n h.1.0 (omega (arith, ints, k.1.1)) le

-- of two points within the limits the one of smaller rank is before the other
pub before_by_rank : (a b : Position) → IsWithinLimits a → IsWithinLimits b → rank a <ℤ rank b → IsBefore a b
before_by_rank a b h k lt =
    (at_most_by_rank a b h k (omega (arith, linear)), λ e. let f : rank a ≡ rank b = ap rank e in absurd (omega (arith, linear)))
