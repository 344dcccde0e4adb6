use Rattle.std.proofs.Common.{◌≡◌, ◌∙◌, ◌++◌, ◌∷◌, [], List, length, take, get_or, map, arith, sym, ap, ap₂, subst}
use Rattle.std.specs.List.Sorted.{IsPermutation, IsSortedBy}
use Rattle.std.proofs.lemmas.List.{length-map, map_more, take_all}
use Rattle.std.proofs.lemmas.Option.{get_or_from_slice_get}
use Rattle.range_plane.specs.Edges.{at}
use Rattle.range_plane.specs.Plane.{origin}
use Rattle.range_stats.specs.Percent.{AreNearestFirst}
use Rattle.range_stats.proofs.FirstEntries.{Entry}
use Rattle.range_stats.proofs.RankIndices.{entries}
use Rattle.page_levels.proofs.Ranked.{before, entries_within, length_sorted, nearest_of_sorted}
use Rattle.page_levels.proofs.kept.ranked_points.Goals as goal

pub loop-entry-init : goal.loop-entry-init
loop-entry-init c = record {
  ranked = c.in_ok-ranked.ensures.items;
  count = c.in_ok-ranked.ensures.len;
  room = omega (arith, c.deref-entry-items.ensures.len, c.in_ok-ranked.ensures.exact, c.len.ensures);
}

pub at-requires : goal.at-requires
at-requires c =
    let points = c.args.points.now.points in
    let sorted = c.deref-entry-items.result.now in
    let moved : IsPermutation (entries points) sorted = subst (λ (l : List Entry). IsPermutation l sorted) c.in_ok-entries.ensures
    (subst (IsPermutation c.in_ok-entries.entries.items) (sym c.deref-entry-items.ensures.value) c.sort_unstable.ensures.permutation) in
    entries_within points sorted moved c.loop-entry.entry-index (0, 0) c.loop-entry-test.true

pub push_reserved-requires : goal.push_reserved-requires
push_reserved-requires c = omega (arith, c.loop-entry.invariant.count, c.loop-entry.invariant.room, c.loop-entry-test.true)

pub loop-entry-preserved : goal.loop-entry-preserved
loop-entry-preserved c =
    let points = c.args.points.now.points in
    let sorted = c.deref-entry-items.result.now in
    let i = c.loop-entry.entry-index in
    let here : at points (get_or sorted i (0, 0)).1 ≡ c.at.result =
    get_or_from_slice_get points (get_or sorted i (0, 0)).1 c.at.result origin c.at.ensures in
    record {
      ranked = c.push_reserved.ensures.items ∙ ap₂ (λ l x. l ++ x ∷ []) c.loop-entry.invariant.ranked (sym here)
          ∙ sym (map_more (λ (a : Entry). at points a.1) sorted i (0, 0) c.loop-entry-test.true);
      count = omega (arith, c.push_reserved.ensures.len, c.loop-entry.invariant.count);
      room = omega (arith, c.push_reserved.ensures.capacity, c.loop-entry.invariant.room);
    }

pub returns : goal.returns
returns c =
    let points = c.args.points.now.points in
    let sorted = c.deref-entry-items.result.now in
    let moved : IsPermutation (entries points) sorted = subst (λ (l : List Entry). IsPermutation l sorted) c.in_ok-entries.ensures
    (subst (IsPermutation c.in_ok-entries.entries.items) (sym c.deref-entry-items.ensures.value) c.sort_unstable.ensures.permutation) in
    let rising : IsSortedBy before sorted = subst (IsSortedBy before) (sym c.deref-entry-items.ensures.value) c.sort_unstable.ensures.sorted in
    let point = λ (a : Entry). at points a.1 in
    let all : take c.loop-entry.entry-index sorted ≡ sorted = take_all c.loop-entry.entry-index sorted (omega (arith, c.loop-entry-test.false)) in
    let is : c.loop-entry.ranked.items ≡ map point sorted = c.loop-entry.invariant.ranked ∙ ap (map point) all in
    record {
      same_length = ap length is ∙ length-map sorted point ∙ length_sorted points sorted moved;
      nearest_first = λ k. subst (λ l. AreNearestFirst points l k) (sym is) (nearest_of_sorted points sorted moved rising k);
    }
