-- The table of no fixes.
use Rattle.std.proofs.Common.{◌≡◌, List, [], refl, rules, ap}
use Rattle.range_plane.specs.Plane.{Position}
use Rattle.range_plane.proofs.ForCallers.{covering_members_are_corners}
use Rattle.range_hull.specs.Hull.{Hull}
use Rattle.range_estimator.specs.declared.row.Row.{Row}
use Rattle.range_estimator.specs.declared.table.Table.{Table}
use Rattle.range_estimator.specs.Estimation.{IsEstimate}
use Rattle.range_estimator.specs.Table.{IsSoundTable, fixes_of}

none : IsEstimate [] [] []
none = let law = covering_members_are_corners in search rules

none_is_estimate : (rows : List Row) (points corners : List Position) → rows ≡ [] → corners ≡ [] → IsEstimate (fixes_of rows points) rows corners
none_is_estimate rows points corners p r = rw (p, r) none

-- a table of no rows, no points and the hull of none is sound
pub none_is_sound : {A : Type 0} (table : Table A) → table.rows.items ≡ [] → table.columns.points ≡ []
    → table.hull ≡ record { corners = []; inserted = 0; skipped = 0; turns = 0; spare = 0 } → IsSoundTable table
none_is_sound table p q r = record {
  count = rw (p, q) refl;
  counted = rw (p, r) refl;
  estimate = none_is_estimate table.rows.items table.columns.points table.hull.corners p (ap (λ (h : Hull). h.corners) r);
}
