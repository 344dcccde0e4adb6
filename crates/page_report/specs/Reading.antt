-- What the lines of a report say. The last part of a text is what stands behind its last line, so a line has another part behind it.
use Rattle.std.specs.Prelude.{◌≡◌, ◌⊎◌, ℕ, Bool, true, false, ◌==◌, ◌&&◌, ◌||◌, not, map, is_some, ◌+◌, if◌then◌else◌, codes, List, [], ◌∷◌, ◌++◌, length, Option, Some, None, Result, Ok, Err, zero, suc}
use Rattle.std.specs.List.{slice_index_or, slice_split}
use Rattle.range_estimator.specs.declared.row.Row.{Row}
use Rattle.range_lanes.specs.declared.extent.Extent.{Extent}
use Rattle.range_plane.specs.declared.scale.Scale.{Scale}
use Rattle.range_plane.specs.declared.scale.Scale.TheVariants.{Metre, Decimetre}
use Rattle.range_stats.specs.declared.percents.PercentRow.{PercentRow}
use Rattle.page_report.specs.Fields.{◌>>=◌, behind}
use Rattle.page_report.specs.Lines.{box_of, corner_of, end_of, head_of, overlap_of, percent_of, row_of}
use Rattle.page_report.specs.declared.corner.Corner.{Corner}
use Rattle.page_report.specs.declared.animal.ReadAnimal.{ReadAnimal}
use Rattle.page_report.specs.declared.overlaps.Overlap.{Overlap}
use Rattle.page_report.specs.declared.report.Report.{Report}
use Rattle.page_report.specs.declared.reading.ReadFault.{ReadFault}
use Rattle.page_report.specs.declared.reading.ReadFault.TheVariants as faults

-- the parts of a text, between ends of lines
abbrev pub parts : List ℕ → List (List ℕ)
parts text = slice_split (λ byte. byte == 10) text

-- what is read of some parts, and those behind; or how many are left from the line on that is refused
abbrev pub Found : Type 0 → Type 0
Found A = Result (A × List (List ℕ)) ℕ

-- what one line says
abbrev pub said_by : {A : Type 0} → Option A → ℕ → List (List ℕ) → Found A
said_by None left behind = Err left
said_by (Some own) left behind = Ok (own, behind)

abbrev pub one : {A : Type 0} → (List ℕ → Option A) → List (List ℕ) → Found A
one read [] = Err 0
one read (line ∷ behind) = if length behind == 0 then Err 1 else said_by (read line) (length (line ∷ behind)) behind

-- one more before others
abbrev pub put : {A : Type 0} → List A → Found (List A) → Found (List A)
put before (Err left) = Err left
put before (Ok (others, behind)) = Ok (before ++ others, behind)

-- and then what is read behind
abbrev pub then_read : {A B : Type 0} → Found A → (A → List (List ℕ) → Found B) → Found B
then_read (Err left) more = Err left
then_read (Ok (own, behind)) more = more own behind

-- why nothing is found: memory ran out, or a line is refused
abbrev pub IsRefusal : {A : Type 0} → Found A → ReadFault → Type 0
IsRefusal found fault = (fault ≡ faults.OutOfMemory) ⊎ ((left : ℕ) × (found ≡ Err left) × (fault ≡ faults.Line left))

-- whether a line begins with a kind
abbrev pub begins : List ℕ → List ℕ → Bool
begins kind line = is_some (behind kind line)

-- whether the first of some parts is no whole line of a kind
abbrev pub stops : List ℕ → List (List ℕ) → Bool
stops kind [] = true
stops kind (line ∷ behind) = length behind == 0 || not (begins kind line)

-- what the lines of a kind say that stand together, of which each has its number, and so many stand before
unfoldable pub many : {A : Type 0} → List ℕ → (ℕ → List ℕ → Option A) → ℕ → List (List ℕ) → Found (List A)
many kind read before [] = Ok ([], [])
many kind read before (line ∷ behind) =
    if stops kind (line ∷ behind) then Ok ([], line ∷ behind)
    else then_read (said_by (read (before + 1) line) (length (line ∷ behind)) behind) (λ own others. put (own ∷ []) (many kind read (before + 1) behind))

abbrev pub rows_of : List ℕ → ℕ → List (List ℕ) → Found (List Row)
rows_of name before lines = many (codes "row,") (row_of name) before lines

abbrev pub corners_of : List ℕ → ℕ → List (List ℕ) → Found (List Corner)
corners_of name before lines = many (codes "corner,") (corner_of name) before lines

abbrev pub percents_of : List ℕ → ℕ → List (List ℕ) → Found (List PercentRow)
percents_of name before lines = many (codes "percent,") (λ number. percent_of name) before lines

-- an animal: its name, the box of its fixes, a row for each, the corners of its polygon, and its percent polygons
pub record Said : Type 0 where
  pub name : List ℕ
  pub extent : Extent
  pub rows : List Row
  pub corners : List Corner
  pub percents : List PercentRow

abbrev pub said : ReadAnimal → Said
said animal = record { name = animal.name.items; extent = animal.extent; rows = animal.rows.items; corners = animal.corners.items; percents = animal.percents.items }

-- corners and percent polygons, behind the rest of an animal
unfoldable pub polygons_of : List ℕ → Extent → List Row → List (List ℕ) → Found Said
polygons_of name extent rows lines =
    then_read (corners_of name 0 lines) (λ corners others. then_read (percents_of name 0 others)
    (λ percents behind. Ok (record { name = name; extent = extent; rows = rows; corners = corners; percents = percents }, behind)))

-- the lines of an animal, which has as many rows as its first line says
unfoldable pub animal_of : List (List ℕ) → Found Said
animal_of lines =
    then_read (one head_of lines) (λ head boxed. then_read (one (box_of head.0) boxed)
    (λ extent rowed. then_read (rows_of head.0 0 rowed)
    (λ rows others. if length rows == head.1 then polygons_of head.0 extent rows others else Err (length others))))

-- animals, so many at most
unfoldable pub animals_from : ℕ → List (List ℕ) → Found (List Said)
animals_from zero lines = Ok ([], lines)
animals_from (suc more) lines =
    if stops (codes "animal,") lines then Ok ([], lines)
    else then_read (animal_of lines) (λ animal behind. put (animal ∷ []) (animals_from more behind))

-- the animals of a text, which has at least as many bytes
abbrev pub animals_of : List ℕ → Found (List Said)
animals_of text = animals_from (length text) (parts text)

-- the name at a place of some
abbrev pub name_at : List (List ℕ) → ℕ → List ℕ
name_at names place = slice_index_or names place []

-- the overlap of two of so many animals with these names
abbrev pub overlap_in : List (List ℕ) → ℕ → ℕ → List ℕ → Option Overlap
overlap_in names animal range line = do
  own ← overlap_of (name_at names animal) (name_at names range) line
  Some (record { animal = animal; range = range; count = own.0; fixes = own.1 })

-- the overlaps of an animal with the ranges from one on, so many of them, but for its own
unfoldable pub ranges_from : List (List ℕ) → ℕ → ℕ → ℕ → List (List ℕ) → Found (List Overlap)
ranges_from names animal range zero lines = Ok ([], lines)
ranges_from names animal range (suc more) lines =
    if range == animal then ranges_from names animal (range + 1) more lines
    else then_read (one (overlap_in names animal range) lines) (λ own behind. put (own ∷ []) (ranges_from names animal (range + 1) more behind))

-- the overlaps of animals from one on, so many of them, each with so many ranges
unfoldable pub overlaps_from : List (List ℕ) → ℕ → ℕ → ℕ → List (List ℕ) → Found (List Overlap)
overlaps_from names ranges animal zero lines = Ok ([], lines)
overlaps_from names ranges animal (suc more) lines =
    then_read (ranges_from names animal 0 ranges lines) (λ own behind. put own (overlaps_from names ranges (animal + 1) more behind))

-- a report: its unit, its animals, and the overlap of each two of them
pub record Read : Type 0 where
  pub unit : Scale
  pub animals : List Said
  pub overlaps : List Overlap

abbrev pub read : Report → Read
read report = record { unit = report.unit; animals = map said report.animals.items; overlaps = report.overlaps.items }

-- the last line, of so many animals
abbrev pub last_of : ℕ → List ℕ → Option ℕ
last_of animals line = do
  own ← end_of line
  if own == animals then Some own else None

-- whether nothing stands behind the last line
abbrev pub is_nothing : List (List ℕ) → Bool
is_nothing [] = false
is_nothing (last ∷ behind) = length behind == 0 && length last == 0

-- the last line, behind which nothing stands
unfoldable pub ended : ℕ → List (List ℕ) → Found ℕ
ended animals lines = then_read (one (last_of animals) lines) (λ own behind. if is_nothing behind then Ok (own, behind) else Err (length behind))

-- overlaps and the last line behind animals
unfoldable pub report_with : Scale → List Said → List (List ℕ) → Found Read
report_with unit animals lines =
    then_read (overlaps_from (map (λ animal. animal.name) animals) (length animals) 0 (length animals) lines)
    (λ overlaps last. then_read (ended (length animals) last) (λ own behind. Ok (record { unit = unit; animals = animals; overlaps = overlaps }, behind)))

-- the report of a text that has its coordinates in this unit
unfoldable pub report_in : Scale → List ℕ → Found Read
report_in unit text = then_read (animals_of text) (λ animals lines. report_with unit animals lines)

-- the report of a text, whose first line names the unit if it is not metres
abbrev pub report_behind : List ℕ → Option (List ℕ) → Found Read
report_behind text None = report_in Metre text
report_behind text (Some rest) = report_in Decimetre rest

abbrev pub report_of : List ℕ → Found Read
report_of text = report_behind text (behind (codes "unit,dm\n") text)

-- what is found
abbrev pub found_in : {A : Type 0} → Found A → Option A
found_in (Err left) = None
found_in (Ok (own, behind)) = Some own
