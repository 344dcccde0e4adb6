-- What a set covers lies in each box that has its members.
use Rattle.std.proofs.Common.{pos, neg_ℤ, ◌≤ℤ◌, arith}
use Rattle.std.proofs.lemmas.Int.{ints}
use Rattle.range_plane.specs.ConvexCover.{advance}
use Rattle.range_plane.specs.Laws.{BoxesHoldWhatIsCovered}
use Rattle.range_plane.specs.Plane.{Position, position}
use Rattle.range_plane.proofs.Separation.{covers_reaching}

-- ---- what a direction along an axis reaches
east : (q s : Position) → pos 0 ≤ℤ advance (position (pos 1) (pos 0)) q s → q.e ≤ℤ s.e
unfolding advance
east q s h = omega (arith, ints)

west : (q s : Position) → pos 0 ≤ℤ advance (position (neg_ℤ (pos 1)) (pos 0)) q s → s.e ≤ℤ q.e
unfolding advance
west q s h = omega (arith, ints)

north : (q s : Position) → pos 0 ≤ℤ advance (position (pos 0) (pos 1)) q s → q.n ≤ℤ s.n
unfolding advance
north q s h = omega (arith, ints)

south : (q s : Position) → pos 0 ≤ℤ advance (position (pos 0) (neg_ℤ (pos 1))) q s → s.n ≤ℤ q.n
unfolding advance
south q s h = omega (arith, ints)

-- a box that has each member of a set has all that the set covers
pub covered_in_box : BoxesHoldWhatIsCovered
covered_in_box set low high q inside covered =
    let reach = (covers_reaching set q).0 covered in
    let w = reach (position (neg_ℤ (pos 1)) (pos 0)) in
    let s = reach (position (pos 0) (neg_ℤ (pos 1))) in
    let e = reach (position (pos 1) (pos 0)) in
    let n = reach (position (pos 0) (pos 1)) in
    record {
      west = omega (arith, ints, west q w.0 w.2, (inside w.0 w.1).west);
      south = omega (arith, ints, south q s.0 s.2, (inside s.0 s.1).south);
      east = omega (arith, ints, east q e.0 e.2, (inside e.0 e.1).east);
      north = omega (arith, ints, north q n.0 n.2, (inside n.0 n.1).north);
    }
