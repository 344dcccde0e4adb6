use Rattle.std.proofs.Common.{◌≡◌, ◌+◌, ◌≤◌, ◌++◌, count_by, not, take}
use Rattle.range_plane.specs.ConvexCover.{is_covered}
use Rattle.range_plane.specs.Row.{points_of}
use Rattle.range_estimator.specs.Table.{IsSoundTable, fixes_in, spare_of}
use Rattle.range_estimator.proofs.table.Table.take_flagged.Given as goal

abbrev pub invariant-loop-i : goal.invariant-loop-i
invariant-loop-i g l = record {
  sound : IsSoundTable l.self;
  fixes : fixes_in l.self ≡ fixes_in l.fn.self ++ take l.i l.block;
  room : spare_of l.fn.self ≤ spare_of l.self + l.i;
  tested : l.self.hull.inserted ≡ l.fn.self.hull.inserted
      + count_by (λ p. not (is_covered l.fn.self.hull.corners p)) (points_of (take l.i l.block));
  untested : l.self.hull.inserted ≡ l.fn.self.hull.inserted → l.self.hull.corners ≡ l.fn.self.hull.corners;
}
