-- The fixes of a track that lie far from its others.
use Rattle.std.specs.Prelude.{◌≡◌, ◌/◌, ℕ, length, ℤ, int_le, Bool, ◌&&◌, if◌then◌else◌, List, Option, None, Some, MatchOption, filter, map}
use Rattle.std.specs.List.Sorted.{IsPermutation, IsSorted}
use Rattle.std.specs.Ordering.{int_cmp, nat_cmp}
use Rattle.range_plane.specs.declared.scale.Scale.{Scale}
use Rattle.split_numbers.specs.Decimal.{units_per_metre}
use Rattle.split_tracks.specs.declared.fate.Entry.{Entry}
use Rattle.split_doubts.specs.declared.axis.Axis.{Axis}
use Rattle.split_doubts.specs.declared.far.FarFixes.{FarFixes}
use Rattle.split_doubts.specs.declared.gap.Side.{Side}
use Rattle.split_doubts.specs.Axes.{coordinate, used_coordinates}
use Rattle.split_doubts.specs.Gaps.{far_side, gap}

-- whether a fix is used and lies on the far side of a strip
abbrev pub is_far : Axis → Side → Entry → Bool
is_far axis side entry = entry.is_used && (if side.is_lower then int_le (coordinate axis entry) side.strip.low else int_le side.strip.high (coordinate axis entry))

-- the numbers of their records, in the order of the track
abbrev pub far_records : Axis → Side → List Entry → List ℕ
far_records axis side track = map (λ entry. entry.«record») (filter (is_far axis side) track)

-- the fixes of a side: the numbers of their records in order, of how many used ones they are, and the gap in whole metres
abbrev pub AreOfSide : {A : Type 0} → Scale → Axis → List Entry → Side → FarFixes A → Type 0
AreOfSide {A} unit axis track side far =
    IsPermutation (far_records axis side track) far.records.items
    × IsSorted nat_cmp far.records.items
    × (far.fixes ≡ length (used_coordinates axis track))
    × (far.metres ≡ gap side.strip / units_per_metre unit)

-- the same of the far side, where there is one
abbrev pub AreFound : {A : Type 0} → Scale → Axis → List Entry → Option Side → Option (FarFixes A) → Type 0
AreFound {A} unit axis track None found = found ≡ None
AreFound {A} unit axis track (Some side) found = MatchOption found ⊥ (AreOfSide unit axis track side)

-- the far fixes of a track, by its coordinates in ascending order
abbrev pub IsAnswer : {A : Type 0} → Scale → Axis → List Entry → Option (FarFixes A) → Type 0
IsAnswer {A} unit axis track found =
    (sorted : List ℤ) × IsPermutation (used_coordinates axis track) sorted × IsSorted int_cmp sorted × AreFound unit axis track (far_side unit sorted) found
