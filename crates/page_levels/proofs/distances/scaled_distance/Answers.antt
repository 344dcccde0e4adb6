use Rattle.std.proofs.Common.{ℕ, ◌≡◌, ◌*◌, ◌≤◌, ℤ, to_z, of_z, w64, unsigned_abs, FitsSigned, arith, ap, rules, ◌∙◌}
use Rattle.std.proofs.lemmas.Int.{to_z-of_z}
use Rattle.std.proofs.Math.Nat.{mul-le-mul}
use Rattle.range_plane.specs.Fix.{fix_limit}
use Rattle.range_plane.specs.Plane.{coordinate_limit}
use Rattle.range_stats.specs.Percent.{square}
use Rattle.page_levels.proofs.distances.scaled_distance.Goals as goal

-- the square of an offset
near : (x : ℤ) (a : ℕ) → FitsSigned w64 x → unsigned_abs x ≤ fix_limit * coordinate_limit → a ≡ square (to_z w64 (of_z w64 x))
    → a ≤ fix_limit * coordinate_limit * (fix_limit * coordinate_limit)
near x a fits bound is = omega (arith, is ∙ ap square (to_z-of_z w64 x fits), mul-le-mul bound bound)

pub overflow_add-result : goal.overflow_add-result
overflow_add-result c =
    let east = near c.offset.result c.square.result (search rules) c.offset.ensures.bound c.square.ensures in
    let north = near c.offset-2.result c.square-2.result (search rules) c.offset-2.ensures.bound c.square-2.ensures in
    record { fits = omega (arith, east, north) }
