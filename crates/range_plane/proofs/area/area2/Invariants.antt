use Rattle.std.proofs.Common.{◌≡◌, ◌*◌, ◌^◌, ◌≤◌, pos, take, get_or}
use Rattle.range_plane.specs.Plane.{origin}
use Rattle.range_plane.proofs.Areas.{triangles}
use Rattle.range_plane.proofs.area.area2.Given as goal

abbrev pub invariant-loop-i : goal.invariant-loop-i
invariant-loop-i l = record {
  bound : l.area ≤ l.i * 2 ^ 64;
  sum : pos l.area ≡ triangles (get_or l.corners 0 origin) (take l.i l.corners);
}
