-- Polygons of the first of points that are ranked, under laws of the plane.
use Rattle.std.proofs.Common.{◌≡◌, ◌∙◌, ℕ, ◌+◌, ◌-◌, ◌≤◌, List, [], ◌∷◌, ◌++◌, length, get_or, map, take, drop, arith, rules, ◌<◌, refl, sym, ap, subst}
use Rattle.std.specs.Prelude.{Contains}
use Rattle.std.specs.List.{All, AllByRecursion, AllZip}
use Rattle.std.specs.List.Sorted.{IsPermutation}
use Rattle.std.proofs.Math.Seq.{take-add}
use Rattle.std.proofs.lemmas.List.{drop-map, length-map, length-take-le, take-map, take_more}
use Rattle.std.proofs.lemmas.List.Elements.{All-contains, All-contains_itself, recursion_from_All}
use Rattle.std.proofs.lemmas.List.Sorted.{IsPermutation-append_comm, IsPermutation-sym, length_permutation}
use Rattle.std.proofs.lemmas.Slice.Zip.{all_zipped_more}
use Rattle.range_hull.specs.Hull.{Hull}
use Rattle.range_plane.specs.Edges.{at}
use Rattle.range_plane.specs.Laws.{CornersCoverTheSet, CoveringMembersAreCorners, LargerSetsCoverMore, OneCoversItself}
use Rattle.range_plane.specs.Plane.{Position}
use Rattle.range_plane.specs.Polygon.{IsPolygon}
use Rattle.range_stats.specs.Keys.{points_at}
use Rattle.range_stats.specs.Percent.{AreNearestFirst, IsFirstRow, IsHullOf, IsPercentRow, IsRanking, kept_count, nearest, nearest_points}
use Rattle.range_stats.specs.declared.percents.PercentRow.{PercentRow}
use Rattle.range_stats.proofs.RankedMembers.{polygon_of_permutation}
use Rattle.range_stats.proofs.RankIndices.{kept_count_le}

zip_through : {A B : Type 0} (P : A → Type 0) (Q R : A → B → Type 0) → ((a : A) (b : B) → P a → Q a b → R a b) → (xs : List A) (ys : List B)
    → AllByRecursion P xs → AllZip Q xs ys → AllZip R xs ys
zip_through P Q R through [] [] each zipped = tt
zip_through P Q R through [] (y ∷ ys) each zipped = absurd zipped
zip_through P Q R through (x ∷ xs) [] each zipped = absurd zipped
zip_through P Q R through (x ∷ xs) (y ∷ ys) each zipped = (through x y each.0 zipped.0, zip_through P Q R through xs ys each.1 zipped.1)

module _ (larger : LargerSetsCoverMore) (one : OneCoversItself) (corners : CornersCoverTheSet) (covering : CoveringMembersAreCorners) where
  -- to a hull of the first so many points in indices the next ones were added
  pub more_first : (points : List Position) (indices : List ℕ) (ranked : List Position) → points_at points indices ≡ ranked → (done kept : ℕ) → done ≤ kept
      → (hull : Hull) → IsHullOf (points_at points (take (kept - done) (drop done indices)) ++ take done ranked) hull → IsHullOf (take kept ranked) hull
  more_first points indices ranked is done kept less hull added =
      let point = at points in
      let part = map point (take (kept - done) (drop done indices)) in
      let before = take done ranked in
      let read : part ≡ take (kept - done) (drop done ranked) = sym (take-map point (kept - done) (drop done indices))
      ∙ ap (take (kept - done)) (sym (drop-map point done indices) ∙ ap (drop done) is) in
      let total : done + (kept - done) ≡ kept = omega (arith, less) in
      let joined : before ++ part ≡ take kept ranked = ap (λ l. before ++ l) read ∙ sym (take-add done (kept - done) ranked)
      ∙ ap (λ n. take n ranked) total in
      let moved = subst (IsPermutation (part ++ before)) joined (IsPermutation-append_comm part before) in
      record {
        polygon = polygon_of_permutation larger one corners covering (part ++ before) (take kept ranked) hull.corners moved added.polygon;
        counted = added.counted ∙ sym (length_permutation (part ++ before) (take kept ranked) moved);
      }

  -- where points are ranked, the row of the first of them at an asked level, at most 100, is that of its percent polygon
  pub percent_row : (points : List Position) (levels : List ℕ) (ranked : List Position) → IsRanking points levels ranked → (level : ℕ) → level ≤ 100
      → Contains levels level → (row : PercentRow) → IsFirstRow ranked level row
      → IsPercentRow points level row
  percent_row points levels ranked ranking level low asked row first =
      let k = kept_count level (length points) in
      let same : kept_count level (length ranked) ≡ k = ap (kept_count level) ranking.same_length in
      let few : k ≤ length ranked = omega (arith, kept_count_le level (length points) low, ranking.same_length) in
      let moved = All-contains (λ level. AreNearestFirst points ranked (kept_count level (length points))) levels level ranking.nearest_first asked in
      let L = first.polygon.0 in
      record {
        same_level = first.same_level;
        kept = first.kept ∙ same ∙ sym (length-take-le k ranked few) ∙ length_permutation (nearest_points points k) (take k ranked) moved
            ∙ length-map (nearest points k) (at points);
        polygon = (
          L,
          polygon_of_permutation larger one corners covering (take k ranked) (nearest_points points k) L
              (IsPermutation-sym (nearest_points points k) (take k ranked) moved) (subst (λ n. IsPolygon (take n ranked) L) same first.polygon.1),
          first.polygon.2,
          first.polygon.3,
        );
      }

  -- where points are ranked, the rows of the first of them at the levels, all at most 100, are those of the percent polygons
  pub percent_rows : (points : List Position) (levels : List ℕ) (ranked : List Position) → IsRanking points levels ranked → All (λ level. level ≤ 100) levels
      → (rows : List PercentRow) → AllZip (IsFirstRow ranked) levels rows → AllZip (IsPercentRow points) levels rows
  percent_rows points levels ranked ranking low rows first =
      let asked : All (λ level. (level ≤ 100) × Contains levels level) levels = λ i d within. (low i d within, All-contains_itself levels i d within) in
      zip_through (λ level. (level ≤ 100) × Contains levels level) (IsFirstRow ranked) (IsPercentRow points)
      (λ level row these. percent_row points levels ranked ranking level these.0 these.1 row) levels rows
      (recursion_from_All (λ level. (level ≤ 100) × Contains levels level) levels asked) first

-- a hull that is new is that of the first none
pub none_first : (ranked : List Position) (hull : Hull) → hull ≡ record { corners = []; inserted = 0; skipped = 0; turns = 0; spare = 0 }
    → IsHullOf (take 0 ranked) hull
none_first ranked hull new = rw new (record { polygon = search rules; counted = refl })

-- one more row
pub row_more : (ranked : List Position) (levels : List ℕ) (rows more : List PercentRow) (i : ℕ) (row : PercentRow) → i < length levels
    → AllZip (IsFirstRow ranked) (take i levels) rows → IsFirstRow ranked (get_or levels i 0) row → more ≡ rows ++ row ∷ []
    → AllZip (IsFirstRow ranked) (take (i + 1) levels) more
row_more ranked levels rows more i row within zipped this pushed =
    rw (pushed, take_more levels i 0 within) (all_zipped_more (IsFirstRow ranked) (take i levels) rows (get_or levels i 0) row zipped this)
