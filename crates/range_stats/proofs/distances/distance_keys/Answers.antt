use Rattle.std.proofs.Common.{◌≡◌, ℕ, ◌<◌, ℤ, pos, to_z, of_z, w64, List, [], ◌∷◌, ◌++◌, length, get_or, map, arith, sym, ap, ap₂, ◌∙◌}
use Rattle.std.specs.List.{All}
use Rattle.std.proofs.lemmas.Int.{ints}
use Rattle.std.proofs.lemmas.List.{get_or-map, length-map}
use Rattle.std.proofs.lemmas.List.FromFn.{map-range_with_len_more}
use Rattle.range_lanes.specs.Totals.{total}
use Rattle.range_plane.specs.Edges.{at}
use Rattle.range_plane.specs.Plane.{IsCoordinate, Position, origin, position}
use Rattle.range_stats.specs.Keys.{key_of}
use Rattle.range_stats.specs.Percent.{distance, scaled_distance, entry}
use Rattle.range_stats.proofs.distances.distance_keys.Goals as goal

-- a coordinate in a column, as code reads it
coordinate_at : (points : List Position) (f : Position → ℤ) (column : List ℤ) (i : ℕ) → i < length points → column ≡ map f points → All IsCoordinate column
    → to_z w64 (of_z w64 (get_or column i (pos 0))) ≡ f (at points i)
coordinate_at points f column i within is limits =
    let inside = limits i (pos 0) (omega (arith, within, ap length is, length-map points f)) in
    let read : to_z w64 (of_z w64 (get_or column i (pos 0))) ≡ get_or column i (pos 0) = omega (arith, ints, inside) in
    read ∙ ap (λ l. get_or l i (pos 0)) is ∙ get_or-map f points i origin (pos 0) within

entry_is : (points : List Position) (i : ℕ) (p : Position) → p ≡ at points i → (count eastings northings d : ℕ) → count ≡ length points
    → pos eastings ≡ total (map (λ q. q.e) points) → pos northings ≡ total (map (λ q. q.n) points) → d ≡ scaled_distance count (pos eastings) (pos northings) p
    → (d, i) ≡ entry points i
unfolding distance
entry_is points i p here count eastings northings d number es ns far =
    let is : d ≡ distance points p =
    far ∙ ap (λ n. scaled_distance n (pos eastings) (pos northings) p) number ∙ ap₂ (λ e n. scaled_distance (length points) e n p) es ns in
    ap (λ x. (x, i)) (is ∙ ap (distance points) here)

pub push_reserved-requires : goal.push_reserved-requires
push_reserved-requires g c = omega (arith, c.loop-index.invariant.count, c.loop-index.invariant.room, c.loop-index-test.true, c.len-count.ensures)

pub loop-index-preserved : goal.loop-index-preserved
loop-index-preserved g c =
    let points = c.args.fixes.now.points in
    let i = c.loop-index.index in
    let within : i < length points = omega (arith, c.loop-index-test.true, c.len-count.ensures) in
    let here = ap₂ position (coordinate_at points (λ p. p.e) c.eastings-eastings.result.now i within c.eastings-eastings.ensures.value c.eastings-eastings.ensures.limits)
    (coordinate_at points (λ p. p.n) c.northings-northings.result.now i within c.northings-northings.ensures.value c.northings-northings.ensures.limits) in
    let item = entry_is points i _ here _ _ _ _ c.len-count.ensures c.sums-easting_sum.ensures.eastings c.sums-easting_sum.ensures.northings
    c.scaled_distance-distance.ensures.value in
    record {
      keys = c.push_reserved.ensures.items ∙ ap₂ (λ l x. l ++ x ∷ []) c.loop-index.invariant.keys (c.key_of.ensures ∙ ap key_of item)
          ∙ sym (map-range_with_len_more (λ i. key_of (entry points i)) 0 i i (omega arith));
      count = omega (arith, c.push_reserved.ensures.len, c.loop-index.invariant.count);
      room = omega (arith, c.push_reserved.ensures.capacity, c.loop-index.invariant.room);
    }
