use Rattle.std.proofs.Common.{◌≡◌, ℕ, pos, List, [], ◌∷◌, ◌++◌, length, map, arith, sym, ap, ap₂, ◌∙◌}
use Rattle.std.proofs.lemmas.List.FromFn.{map-range_with_len_more}
use Rattle.std.proofs.lemmas.Option.{get_or_from_slice_get}
use Rattle.range_lanes.specs.Totals.{total}
use Rattle.range_plane.specs.Edges.{at}
use Rattle.range_plane.specs.Plane.{Position, origin}
use Rattle.range_stats.specs.Percent.{distance, scaled_distance, entry}
use Rattle.page_levels.proofs.distances.entries_of.Goals as goal

entry_is : (points : List Position) (i : ℕ) (p : Position) → p ≡ at points i → (count eastings northings d : ℕ) → count ≡ length points
    → pos eastings ≡ total (map (λ q. q.e) points) → pos northings ≡ total (map (λ q. q.n) points) → d ≡ scaled_distance count (pos eastings) (pos northings) p
    → (d, i) ≡ entry points i
unfolding distance
entry_is points i p here count eastings northings d number es ns far =
    let is : d ≡ distance points p =
    far ∙ ap (λ n. scaled_distance n (pos eastings) (pos northings) p) number ∙ ap₂ (λ e n. scaled_distance (length points) e n p) es ns in
    ap (λ x. (x, i)) (is ∙ ap (distance points) here)

pub loop-index-preserved : goal.loop-index-preserved
loop-index-preserved c =
    let points = c.args.points.now.points in
    let i = c.loop-index.index in
    let here : c.at.result ≡ at points i = sym (get_or_from_slice_get points i c.at.result origin c.at.ensures) in
    let item = entry_is points i c.at.result here _ _ _ _ c.len-count.ensures c.sums-eastings.ensures.eastings c.sums-eastings.ensures.northings
    c.scaled_distance-distance.ensures in
    record {
      entries = c.push_reserved.ensures.items ∙ ap₂ (λ l x. l ++ x ∷ []) c.loop-index.invariant.entries item
          ∙ sym (map-range_with_len_more (entry points) 0 i i (omega arith));
      count = omega (arith, c.push_reserved.ensures.len, c.loop-index.invariant.count);
      room = omega (arith, c.push_reserved.ensures.capacity, c.loop-index.invariant.room);
    }
