-- The table of fixes with one fix more.
use Rattle.std.proofs.Common.{◌≡◌, refl, sym, ap, subst, ◌∙◌, ℕ, ◌+◌, ◌-◌, ◌<◌, pos, List, [], ◌∷◌, ◌++◌, length, slice_get, option_map, inl, inr, arith}
use Rattle.std.proofs.Common.{length-append}
use Rattle.std.proofs.lemmas.List.{map-append, take-append-le, take_all}
use Rattle.std.proofs.lemmas.Option.{slice_get_within}
use Rattle.std.proofs.Math.Nat.{suc_inj}
use Rattle.range_plane.specs.Laws.{CornersCoverTheSet, CoveringMembersAreCorners, SetsCoverTheirMembers}
use Rattle.range_plane.specs.Plane.{Position}
use Rattle.range_plane.specs.Polygon.{IsPolygon, area2}
use Rattle.range_plane.specs.Row.{IsRow, points_of}
use Rattle.range_plane.specs.declared.fix.Fix.{Fix}
use Rattle.range_estimator.specs.declared.row.Row.{Row}
use Rattle.range_estimator.specs.Estimation.{IsEstimate, IsTable}
use Rattle.range_estimator.specs.Table.{fix_at, fixes_of}
use Rattle.range_lemmas.proofs.Indices.{before_or_last, slice_get_before, slice_get_last}
use Rattle.range_estimator.proofs.Sets.{polygon_pushed}

-- ---- fixes by their rows and points
-- the points of fixes are those that they were made with
pub points_of_fixes : (rows : List Row) (points : List Position) → length rows ≡ length points → points_of (fixes_of rows points) ≡ points
points_of_fixes [] [] h = refl
points_of_fixes [] (p ∷ points) h = cc
points_of_fixes (r ∷ rows) [] h = cc
points_of_fixes (r ∷ rows) (p ∷ points) h = ap (λ l. p ∷ l) (points_of_fixes rows points (suc_inj h))

-- a row and a point more are a fix more
pub fixes_pushed : (rows : List Row) (points : List Position) (r : Row) (p : Position) → length rows ≡ length points
    → fixes_of (rows ++ r ∷ []) (points ++ p ∷ []) ≡ fixes_of rows points ++ fix_at r p ∷ []
fixes_pushed [] [] r p h = refl
fixes_pushed [] (q ∷ points) r p h = cc
fixes_pushed (s ∷ rows) [] r p h = cc
fixes_pushed (s ∷ rows) (q ∷ points) r p h = ap (λ l. fix_at s q ∷ l) (fixes_pushed rows points r p (suc_inj h))

-- ---- rows
-- what the polygon of some fixes gives a row
abbrev Gives : List Fix → ℕ → ℕ → Type 0
Gives fixes corners area = (L : List Position) × IsPolygon (points_of fixes) L × (length L ≡ corners) × (area2 L ≡ pos area)

-- a fix more changes no row before it
row_before : (fixes : List Fix) (fix : Fix) (index second corners area : ℕ) → index < length fixes → IsRow fixes (index + 1) second corners area
    → IsRow (fixes ++ fix ∷ []) (index + 1) second corners area
row_before fixes fix index second corners area h row =
    record {
      some = row.some;
      last = ap (option_map (λ f. f.second)) (slice_get_before fixes fix (index + 1 - 1) (omega arith)) ∙ row.last;
      polygon = subst (λ fs. Gives fs corners area) (sym (take-append-le (index + 1) fixes (fix ∷ []) (omega arith))) row.polygon;
    }

row_of_all : (fixes : List Fix) (row : Row) (p : Position) (n : ℕ) → n ≡ length fixes → Gives (fixes ++ fix_at row p ∷ []) row.corners row.area2
    → IsRow (fixes ++ fix_at row p ∷ []) (n + 1) row.second row.corners row.area2
row_of_all fixes row p n h gives =
    let all = fixes ++ fix_at row p ∷ [] in
    let index : n + 1 - 1 ≡ length fixes = omega arith in
    record {
      some = omega arith;
      last = ap (λ k. option_map (λ f. f.second) (slice_get all k)) index ∙ ap (option_map (λ f. f.second)) (slice_get_last fixes (fix_at row p));
      polygon = subst (λ fs. Gives fs row.corners row.area2) (sym (take_all (n + 1) all (omega (arith, length-append fixes (fix_at row p ∷ []))))) gives;
    }

table_pushed : (fixes : List Fix) (rows : List Row) (row : Row) (p : Position) → IsTable fixes rows → Gives (fixes ++ fix_at row p ∷ []) row.corners row.area2
    → IsTable (fixes ++ fix_at row p ∷ []) (rows ++ row ∷ [])
table_pushed fixes rows row p table gives =
    let fix = fix_at row p in
    record {
      count = omega (arith, table.count, length-append fixes (fix ∷ []), length-append rows (row ∷ []));
      each = λ index r e. elim (before_or_last rows r row index e) [
        | inl k ↦ row_before fixes fix index r.second r.corners r.area2 (omega (arith, table.count, slice_get_within rows index r k)) (table.each index r k)
        | inr l ↦ subst (λ (x : Row). IsRow (fixes ++ fix ∷ []) (index + 1) x.second x.corners x.area2) l.1
            (row_of_all fixes row p index (l.0 ∙ table.count) gives)
      ];
    }

-- ---- the estimate of fixes, with a row and a point more
-- rows and new corners are the estimate of the fixes with one more, where its row has the new corners' number and area
pub estimate_pushed : SetsCoverTheirMembers → CoveringMembersAreCorners → CornersCoverTheSet
    → (rows : List Row) (points : List Position) (row : Row) (p : Position) (L M : List Position) → length rows ≡ length points
    → IsEstimate (fixes_of rows points) rows L
    → ((S : List Position) → IsPolygon S L → IsPolygon (p ∷ S) M) → length M ≡ row.corners → area2 M ≡ pos row.area2
    → IsEstimate (fixes_of (rows ++ row ∷ []) (points ++ p ∷ [])) (rows ++ row ∷ []) M
estimate_pushed members corners cover rows points row p L M count old more many area =
    let fixes = fixes_of rows points in
    let all = sym (map-append (λ (f : Fix). f.at) fixes (fix_at row p ∷ [])) in
    let polygon = subst (λ S. IsPolygon S M) all (polygon_pushed members corners cover (points_of fixes) M p (more (points_of fixes) old.polygon)) in
    subst (λ F. IsEstimate F (rows ++ row ∷ []) M) (sym (fixes_pushed rows points row p count))
    (record { table = table_pushed fixes rows row p old.table (M, polygon, many, area); polygon = polygon })
