-- The rings that the lines of a boundary say, or the first line that may not stand there. The last part of a text is what stands behind
-- its last line.
use Rattle.std.specs.Prelude.{ℕ, ◌≡◌, ◌⊎◌, ◌==◌, ◌||◌, not, ◌+◌, ◌-◌, if◌then◌else◌, codes, List, [], ◌∷◌, ◌++◌, length, map, slice_index_or, slice_set, Option, Some, None, Result, Ok, Err, Vec}
use Rattle.std.specs.Str.{bytes_eq}
use Rattle.page_map.specs.declared.land.Ground.{Ground}
use Rattle.page_report.specs.Fields.{◌>>=◌}
use Rattle.page_report.specs.Reading.{parts}
use Rattle.page_boundary.specs.Points.{Place, RingPlace, place_of, point_in}
use Rattle.page_boundary.specs.declared.boundary.BoundaryFault.{BoundaryFault}
use Rattle.page_boundary.specs.declared.boundary.BoundaryFault.TheVariants as faults

abbrev pub Ring : Type 0
Ring = List Place

-- rings with a point more, which is one of the last ring or begins the next
abbrev pub added : List Ring → RingPlace → Option (List Ring)
added rings (ring, place) =
    if ring == length rings + 1 then Some (rings ++ (place ∷ []) ∷ [])
    else if length rings == 0 || not (ring == length rings) then None
    else Some (slice_set rings (length rings - 1) (slice_index_or rings (length rings - 1) [] ++ place ∷ []))

-- and then what the lines behind say, or the line of this number is refused
abbrev pub then_rings : ℕ → Option (List Ring) → (List Ring → Result (List Ring) ℕ) → Result (List Ring) ℕ
then_rings number None more = Err number
then_rings number (Some rings) more = more rings

-- the rings that these are with what lines say of which the first has this number, up to the nothing behind the last
unfoldable pub rings_from : List Ring → ℕ → List (List ℕ) → Result (List Ring) ℕ
rings_from rings number [] = Err number
rings_from rings number (last ∷ []) = if length last == 0 then Ok rings else Err number
rings_from rings number (line ∷ next ∷ behind) =
    then_rings number (point_in line >>= added rings) (λ more. rings_from more (number + 1) (next ∷ behind))

-- the rings of a text below its first line
abbrev pub below_titles : List (List ℕ) → Result (List Ring) ℕ
below_titles [] = Err 1
below_titles (titles ∷ []) = Err 1
below_titles (titles ∷ next ∷ behind) = if bytes_eq titles (codes "ring,easting,northing") then rings_from [] 2 (next ∷ behind) else Err 1

abbrev pub boundary_in : List ℕ → Result (List Ring) ℕ
boundary_in text = below_titles (parts text)

-- why nothing is found: memory ran out, or a line is refused
abbrev pub IsFault : Result (List Ring) ℕ → BoundaryFault → Type 0
IsFault found fault = (fault ≡ faults.OutOfMemory) ⊎ ((number : ℕ) × (found ≡ Err number) × (fault ≡ faults.Line number))

-- the places of rings
abbrev pub places_of : {A : Type 0} → List (Vec Ground A) → List Ring
places_of rings = map (λ ring. map place_of ring.items) rings
