use Rattle.std.proofs.Common.{refl}
use Rattle.range_plane.proofs.Others.{covered_without}
use Rattle.range_plane.proofs.plain.is_covered_by_others.Goals as goal

pub returns-then-is_on_some_segment : goal.returns-then-is_on_some_segment
returns-then-is_on_some_segment c = rw (covered_without, ← c.is_on_some_segment.ensures, c.if-is_on_some_segment.true) refl

pub returns-else-is_on_some_segment : goal.returns-else-is_on_some_segment
returns-else-is_on_some_segment c = rw (covered_without, ← c.is_on_some_segment.ensures, c.if-is_on_some_segment.false, c.is_in_some_triangle.ensures) refl
