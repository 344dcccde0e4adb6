-- Which fix makes the most of the area of a range: the one without which the polygon of all others is least.
use Rattle.std.specs.Prelude.{ℕ, pos, ◌≡◌, ◌<◌, ◌≤◌, List, Option, Some, None, length}
use Rattle.std.specs.List.{remove}
use Rattle.range_plane.specs.Plane.{Position}
use Rattle.range_plane.specs.Polygon.{IsPolygon, area2}
use Rattle.page_influence.specs.declared.influence.Influence.{Influence}

-- this is the doubled area of the polygon of a set
abbrev pub IsAreaOf : List Position → ℕ → Type 0
IsAreaOf S area = (L : List Position) × IsPolygon S L × (pos area ≡ area2 L)

-- this is the doubled area of the polygon of all fixes but the one at an index
abbrev pub IsAreaWithout : List Position → ℕ → ℕ → Type 0
IsAreaWithout points index area = IsAreaOf (remove points index) area

-- without this fix the polygon of all others has this area; without no other fix it is less, and without no earlier one as small
pub record IsLeastWithout (points : List Position) (influence : Influence) : Type 0 where
  pub fix : influence.index < length points
  pub area : IsAreaWithout points influence.index influence.area2
  pub least : (other area : ℕ) → other < length points → IsAreaWithout points other area → influence.area2 ≤ area
  pub first : (earlier area : ℕ) → earlier < influence.index → IsAreaWithout points earlier area → influence.area2 < area

-- what is said of fixes: of fewer than two nothing
abbrev pub IsInfluence : List Position → Option Influence → Type 0
IsInfluence points None = length points < 2
IsInfluence points (Some influence) = (2 ≤ length points) × IsLeastWithout points influence
