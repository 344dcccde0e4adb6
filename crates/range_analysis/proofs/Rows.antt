-- What a row of overlap is of.
use Rattle.std.proofs.Common.{◌≡◌, refl, sym, ap, ◌∙◌, ℕ, ◌<◌, List, [], length, get_or}
use Rattle.std.proofs.lemmas.List.{get_or-map}
use Rattle.range_stats.specs.Overlap.{overlap}
use Rattle.range_analysis.specs.Overlaps.{points_of_each, row_of}
use Rattle.range_analysis.specs.Animals.{points_at}
use Rattle.range_analysis.specs.declared.measured.Measured.{Measured}

points_are : (measured : List Measured) (i : ℕ) (m : Measured) → i < length measured → m ≡ get_or measured i m
    → m.fixes.points ≡ points_at (points_of_each measured) i
points_are measured i m within is = sym (get_or-map (λ (m : Measured). m.fixes.points) measured i m [] within ∙ ap (λ (m : Measured). m.fixes.points) (sym is))

-- a row with two animals' indexes, the count of their overlap and the number of fixes is that of the pair
pub row_is : (measured : List Measured) (a r count fixes : ℕ) (animal range : Measured) → a < length measured → r < length measured
    → animal ≡ get_or measured a animal → range ≡ get_or measured r range
    → count ≡ overlap animal.fixes.points range.fixes.points → fixes ≡ length animal.fixes.points
    → record { animal = a; range = r; count = count; fixes = fixes } ≡ row_of (points_of_each measured) (a, r)
row_is measured a r count fixes animal range in_a in_r is_a is_r counted long =
    rw (counted, long, points_are measured a animal in_a is_a, points_are measured r range in_r is_r) refl
