use Rattle.std.proofs.Common.{◌≡◌, ◌∙◌, ℕ, List, length, get_or, take, arith, sym, ap, subst}
use Rattle.std.specs.List.{AllZip}
use Rattle.std.proofs.lemmas.List.{length-map, take_all}
use Rattle.range_plane.specs.Edges.{at}
use Rattle.range_plane.proofs.ForCallers.{corners_cover_the_set, covering_members_are_corners, larger_sets_cover_more, one_covers_itself}
use Rattle.range_stats.specs.Percent.{IsFirstRow, IsHullOf, kept_count}
use Rattle.range_stats.proofs.Firsts.{none_first, percent_rows, row_more}
use Rattle.range_stats.proofs.rankings.Ranking.rows.Goals as goal
use Rattle.range_stats.proofs.rankings.Ranking.rows.Goals.{then-kept-done, else-kept-done}

pub loop-level-init : goal.loop-level-init
loop-level-init g c = record {
  hull = none_first c.args.self.now c.new-hull.result c.new-hull.ensures;
  rows = rw c.in_ok-rows.ensures.items tt;
}

pub row_at-requires-clause-hull : goal.row_at-requires-clause-hull
row_at-requires-clause-hull g c =
    let ranked = c.args.self.now in
    elim c.if-kept-done.branch [
      | then-kept-done w ↦ rw (w.hull-is, w.done-is) (none_first ranked w.new-hull-then-kept-done.result w.new-hull-then-kept-done.ensures)
      | else-kept-done w ↦ rw (w.hull-is, w.done-is) c.loop-level.invariant.hull
    ]

pub loop-level-preserved : goal.loop-level-preserved
loop-level-preserved g c =
    let ranked = c.args.self.now in
    let levels = c.args.levels.now in
    let i = c.loop-level.level-index in
    let size : c.len.result ≡ length ranked = omega (
      arith,
      c.len.ensures,
      c.self.inside.indices.ok,
      length-map c.self.inside.indices.items (at c.self.inside.fixes.now.points),
      ap length c.self.view_is,
    ) in
    let count : c.kept_count-kept.result ≡ kept_count (get_or levels i 0) (length ranked) = c.kept_count-kept.ensures
    ∙ ap (kept_count (get_or levels i 0)) size in
    record {
      hull = subst (λ n. IsHullOf (take n ranked) c.row_at.new.hull) (sym count) c.in_ok-row.ensures.hull;
      rows = row_more ranked levels c.loop-level.rows.items c.push.new.self.items i c.in_ok-row.row c.loop-level-test.true c.loop-level.invariant.rows
          c.in_ok-row.ensures.row c.in_ok-push.ensures.items;
    }

pub returns : goal.returns
returns g c = λ points ranking.
    let ranked = c.args.self.now in
    let levels = c.args.levels.now in
    let all : take c.loop-level.level-index levels ≡ levels = take_all c.loop-level.level-index levels (omega arith) in
    let rows = subst (λ (l : List ℕ). AllZip (IsFirstRow ranked) l c.loop-level.rows.items) all c.loop-level.invariant.rows in
    percent_rows larger_sets_cover_more one_covers_itself corners_cover_the_set covering_members_are_corners points
    levels ranked ranking c.requires c.loop-level.rows.items rows
