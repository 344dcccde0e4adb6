-- Two layers of fixes: one that stands for each corner of the polygon of all, and the rest, with the polygon of these.
use Rattle.std.specs.Prelude.{ℕ, ◌<◌, ◌≤◌, ◌≡◌, ◌⊎◌, ◌++◌, Bool, true, false, Contains, List, length, slice_index, slice_index_or}
use Rattle.std.specs.List.{remove}
use Rattle.range_plane.specs.ConvexCover.{Covers}
use Rattle.range_plane.specs.Edges.{at}
use Rattle.range_plane.specs.Plane.{Position}
use Rattle.range_plane.specs.Polygon.{IsPolygon}
use Rattle.page_influence.specs.Influence.{IsAreaOf, IsAreaWithout}
use Rattle.page_influence.specs.declared.influence.Influence.{Influence}

-- these are the indices of a fix at each corner, in the order of the corners
pub record AreCornerFixes (points corners : List Position) (fixes : List ℕ) : Type 0 where
  pub same_length : length fixes ≡ length corners
  pub within : (k : ℕ) → k < length fixes → slice_index fixes k < length points
  pub there : (k : ℕ) → k < length fixes → at points (slice_index fixes k) ≡ at corners k

-- of so many fixes, these have a flag and the others none
pub record AreFlags (count : ℕ) (fixes : List ℕ) (flags : List Bool) : Type 0 where
  pub same_length : length flags ≡ count
  pub flagged : (k : ℕ) → k < length fixes → slice_index_or flags (slice_index fixes k) true ≡ true
  pub only : (i : ℕ) → i < count → slice_index_or flags i true ≡ true → Contains fixes i

-- a fix that has no flag
abbrev pub HasNoFlag : List Bool → ℕ → Type 0
HasNoFlag flags i = slice_index_or flags i true ≡ false

-- a fix that is none of these
abbrev pub IsOther : List ℕ → ℕ → Type 0
IsOther fixes i = ¬ (Contains fixes i)

-- this is the polygon of some of the fixes: its corners are at such fixes, and it covers each of them
pub record IsPolygonOf (IsOne : ℕ → Type 0) (points L : List Position) : Type 0 where
  pub polygon : IsPolygon L L
  pub members : (x : Position) → Contains L x → (i : ℕ) × (i < length points) × IsOne i × (at points i ≡ x)
  pub covers : (i : ℕ) → i < length points → IsOne i → Covers L (at points i)

-- this is the polygon of the fixes that have no flag
abbrev pub IsPolygonOfRest : List Position → List Bool → List Position → Type 0
IsPolygonOfRest points flags L = IsPolygonOf (HasNoFlag flags) points L

-- this is the polygon of all fixes but some
abbrev pub IsPolygonWithout : List Position → List ℕ → List Position → Type 0
IsPolygonWithout points fixes L = IsPolygonOf (IsOther fixes) points L

-- the corners of the polygon of all but the one at this place, and those of the polygon of the rest
abbrev pub other_corners : List Position → ℕ → List Position → List Position
other_corners corners place inner = remove corners place ++ inner

-- at an index stands the area without the corner for which this fix stands, or what stood there, if it stands for none
abbrev pub IsSetAt : List Position → List Position → List ℕ → List ℕ → List ℕ → ℕ → Type 0
IsSetAt corners inner fixes old new i =
    ((k : ℕ) × (k < length fixes) × (slice_index fixes k ≡ i) × IsAreaOf (other_corners corners k inner) (slice_index new i))
    ⊎ (IsOther fixes i × (slice_index new i ≡ slice_index old i))

-- these are the areas without each of the fixes
pub record AreAreasWithout (points : List Position) (areas : List ℕ) : Type 0 where
  pub same_length : length areas ≡ length points
  pub each : (i : ℕ) → i < length points → IsAreaWithout points i (slice_index areas i)

-- this is the first of the least of some areas
pub record IsFirstLeast (areas : List ℕ) (influence : Influence) : Type 0 where
  pub within : influence.index < length areas
  pub area : influence.area2 ≡ slice_index areas influence.index
  pub least : (k : ℕ) → k < length areas → influence.area2 ≤ slice_index areas k
  pub first : (k : ℕ) → k < influence.index → influence.area2 < slice_index areas k
