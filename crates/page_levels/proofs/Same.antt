-- Boxes, tables and corners of the same fixes are the same.
use Rattle.std.proofs.Common.{◌≡◌, ◌∙◌, ◌+◌, ◌&&◌, ◌==◌, int_eq, ℕ, ℤ, pos, List, [], ◌∷◌, length, get_or, map, refl, sym, ap, arith}
use Rattle.std.specs.Prelude.{◌≤ℤ◌}
use Rattle.std.specs.Bool.{Decides}
use Rattle.std.proofs.lemmas.Bool.Decides.{Decides-and, Decides-eqb, Decides-int_eq, Decides-like}
use Rattle.std.proofs.lemmas.Int.{ints}
use Rattle.std.proofs.lemmas.List.{same_lists}
use Rattle.std.proofs.lemmas.List.Elements.{All-contains}
use Rattle.std.proofs.lemmas.Option.{same_Some, slice_get-get_or}
use Rattle.range_estimator.specs.Estimation.{IsTable}
use Rattle.range_estimator.specs.declared.row.Row.{Row}
use Rattle.range_lanes.specs.Extent.{IsExtent, IsGreatest, IsLeastCoordinate}
use Rattle.range_lanes.specs.declared.extent.Extent.{Extent}
use Rattle.range_plane.specs.Plane.{Position}
use Rattle.range_plane.specs.Polygon.{area2}
use Rattle.range_plane.specs.Row.{IsRow}
use Rattle.range_plane.specs.declared.fix.Fix.{Fix}
use Rattle.range_plane.proofs.ForCallers.{one_polygon}
use Rattle.page_report.specs.declared.corner.Corner.{Corner}
use Rattle.page_levels.specs.Same.{corner_at, corner_position}

one_least : (xs : List ℤ) (a b : ℤ) → IsLeastCoordinate xs a → IsLeastCoordinate xs b → a ≡ b
one_least xs a b least other =
    let less : a ≤ℤ b = All-contains (λ x. a ≤ℤ x) xs b least.1 other.0 in
    let more : b ≤ℤ a = All-contains (λ x. b ≤ℤ x) xs a other.1 least.0 in
    omega (arith, ints, less, more)

one_greatest : (xs : List ℤ) (a b : ℤ) → IsGreatest xs a → IsGreatest xs b → a ≡ b
one_greatest xs a b greatest other =
    let less : b ≤ℤ a = All-contains (λ x. x ≤ℤ a) xs b greatest.1 other.0 in
    let more : a ≤ℤ b = All-contains (λ x. x ≤ℤ b) xs a other.1 greatest.0 in
    omega (arith, ints, less, more)

pub one_extent : (points : List Position) (a b : Extent) → IsExtent points a → IsExtent points b → a ≡ b
one_extent points a b own other =
    let west = one_least (map (λ p. p.e) points) a.min_e b.min_e own.min_e other.min_e in
    let south = one_least (map (λ p. p.n) points) a.min_n b.min_n own.min_n other.min_n in
    let east = one_greatest (map (λ p. p.e) points) a.max_e b.max_e own.max_e other.max_e in
    let north = one_greatest (map (λ p. p.n) points) a.max_n b.max_n own.max_n other.max_n in
    λ i. record { min_e = west i; min_n = south i; max_e = east i; max_n = north i }

one_row : (fixes : List Fix) (n : ℕ) (a b : Row) → IsRow fixes n a.second a.corners a.area2 → IsRow fixes n b.second b.corners b.area2 → a ≡ b
one_row fixes n a b own other =
    let second = same_Some a.second b.second (sym own.last ∙ other.last) in
    let one = one_polygon _ own.polygon.0 other.polygon.0 own.polygon.1 other.polygon.1 in
    let corners : a.corners ≡ b.corners = sym own.polygon.2 ∙ ap length one ∙ other.polygon.2 in
    let area : pos a.area2 ≡ pos b.area2 = sym own.polygon.3 ∙ ap area2 one ∙ other.polygon.3 in
    let same : a.area2 ≡ b.area2 = omega (arith, ints, area) in
    λ i. record { second = second i; corners = corners i; area2 = same i }

pub one_table : (fixes : List Fix) (xs ys : List Row) → IsTable fixes xs → IsTable fixes ys → xs ≡ ys
one_table fixes xs ys own other =
    let long = own.count ∙ sym other.count in
    same_lists xs ys long
    (λ k d within.
    one_row fixes (k + 1) (get_or xs k d) (get_or ys k d) (own.each k (get_or xs k d) (slice_get-get_or xs k d within))
    (other.each k (get_or ys k d) (slice_get-get_or ys k d (omega (arith, within, long)))))

-- corners at positions are at these
pub positions_back : (L : List Position) → map corner_position (map corner_at L) ≡ L
positions_back [] = refl
positions_back (p ∷ L) = ap (λ l. p ∷ l) (positions_back L)

pub corners_back : (corners : List Corner) → map corner_at (map corner_position corners) ≡ corners
corners_back [] = refl
corners_back (corner ∷ corners) = ap (λ l. corner ∷ l) (corners_back corners)

-- the tests of boxes, rows and corners
pub extent_decides : (a b : Extent) → Decides (int_eq a.min_e b.min_e && (int_eq a.min_n b.min_n && (int_eq a.max_e b.max_e && int_eq a.max_n b.max_n))) (a ≡ b)
extent_decides a b =
    Decides-like _ (λ (same : (a.min_e ≡ b.min_e) × ((a.min_n ≡ b.min_n) × ((a.max_e ≡ b.max_e) × (a.max_n ≡ b.max_n)))). λ i. record {
      min_e = same.0 i;
      min_n = same.1.0 i;
      max_e = same.1.1.0 i;
      max_n = same.1.1.1 i;
    })
    (λ e. (ap (λ (x : Extent). x.min_e) e, (ap (λ (x : Extent). x.min_n) e, (ap (λ (x : Extent). x.max_e) e, ap (λ (x : Extent). x.max_n) e))))
    (Decides-and _ _ (Decides-int_eq a.min_e b.min_e)
    (Decides-and _ _ (Decides-int_eq a.min_n b.min_n) (Decides-and _ _ (Decides-int_eq a.max_e b.max_e) (Decides-int_eq a.max_n b.max_n))))

pub row_decides : (a b : Row) → Decides (a.second == b.second && (a.corners == b.corners && a.area2 == b.area2)) (a ≡ b)
row_decides a b =
    Decides-like _ (λ (same : (a.second ≡ b.second) × ((a.corners ≡ b.corners) × (a.area2 ≡ b.area2))). λ i. record {
      second = same.0 i;
      corners = same.1.0 i;
      area2 = same.1.1 i;
    })
    (λ e. (ap (λ (x : Row). x.second) e, (ap (λ (x : Row). x.corners) e, ap (λ (x : Row). x.area2) e)))
    (Decides-and _ _ (Decides-eqb a.second b.second) (Decides-and _ _ (Decides-eqb a.corners b.corners) (Decides-eqb a.area2 b.area2)))

pub corner_decides : (a b : Corner) → Decides (int_eq a.easting b.easting && int_eq a.northing b.northing) (a ≡ b)
corner_decides a b =
    Decides-like _ (λ (same : (a.easting ≡ b.easting) × (a.northing ≡ b.northing)). λ i. record { easting = same.0 i; northing = same.1 i })
    (λ e. (ap (λ (x : Corner). x.easting) e, ap (λ (x : Corner). x.northing) e))
    (Decides-and _ _ (Decides-int_eq a.easting b.easting) (Decides-int_eq a.northing b.northing))
