-- Animals of a report, read back.
use Rattle.std.proofs.Common.{◌≡◌, ◌≤◌, ℕ, zero, suc, true, false, List, [], ◌∷◌, ◌++◌, length, map, Ok, refl, ap, sym, ◌∙◌, codes, arith, append_assoc, eq-eqb, map-id}
use Rattle.std.specs.List.{All, flat_map}
use Rattle.std.proofs.lemmas.List.Elements.{All-head, All-tail}
use Rattle.range_estimator.specs.declared.row.Row.{Row}
use Rattle.range_lanes.specs.declared.extent.Extent.{Extent}
use Rattle.range_plane.specs.Plane.{IsWithinLimits, Position}
use Rattle.range_stats.specs.declared.percents.PercentRow.{PercentRow}
use Rattle.range_analysis.specs.declared.animal.Animal.{Animal}
use Rattle.range_report.specs.Report.{animal_line, animal_text, box_line, corner_line, numbered_lines, percent_line, row_line}
use Rattle.page_report.specs.Fields.{behind}
use Rattle.page_report.specs.Lines.{corner_of, head_of, percent_of, row_of}
use Rattle.page_report.specs.Reading.{animal_of, animals_from, corners_of, parts, percents_of, polygons_of, put, rows_of, stops}
use Rattle.page_report.specs.declared.fields.TheConstants.{MOST_COUNT}
use Rattle.page_laws.specs.Back.{animal_from, corner_from}
use Rattle.page_laws.specs.Within.{IsAnimalWithin, IsPercentWithin, IsRowWithin}
use Rattle.page_laws.proofs.FieldsBack.{Lacks}
use Rattle.page_laws.proofs.LinesBack.{IsLineOf, box_back, corner_back, head_back, percent_back, row_back}
use Rattle.page_laws.proofs.ManyBack.{Differ, goes_on, many_back, one_back, same_lines, stops_at, stops_many, then_found}
use Rattle.page_laws.proofs.Names.{name_lacks}

-- ---- kinds of lines
row_differs_corner : Differ (codes "row,") (codes "corner,")
unfolding behind
row_differs_corner said = refl

row_differs_percent : Differ (codes "row,") (codes "percent,")
unfolding behind
row_differs_percent said = refl

corner_differs_percent : Differ (codes "corner,") (codes "percent,")
unfolding behind
corner_differs_percent said = refl

row_differs_animal : Differ (codes "row,") (codes "animal,")
unfolding behind
row_differs_animal said = refl

corner_differs_animal : Differ (codes "corner,") (codes "animal,")
unfolding behind
corner_differs_animal said = refl

percent_differs_animal : Differ (codes "percent,") (codes "animal,")
unfolding behind
percent_differs_animal said = refl

-- no line that an animal ends with stands next
pub record EndsAnimal (rest : List ℕ) : Type 0 where
  pub no_row : stops (codes "row,") (parts rest) ≡ true
  pub no_corner : stops (codes "corner,") (parts rest) ≡ true
  pub no_percent : stops (codes "percent,") (parts rest) ≡ true

-- ---- the lines of an animal
module _ (name : List ℕ) (whole : Lacks 10 name) where
  each_row : (n : ℕ) (row : Row) → n ≤ MOST_COUNT → IsRowWithin row → IsLineOf (codes "row,") (row_of name n) (row_line name n row) row
  each_row n row few within = row_back name n row whole few within

  each_corner : (n : ℕ) (corner : Position) → n ≤ MOST_COUNT → IsWithinLimits corner
      → IsLineOf (codes "corner,") (corner_of name n) (corner_line name n corner) (corner_from corner)
  each_corner n corner few within = corner_back name n corner whole few within.0 within.1

  each_percent : (most n : ℕ) (row : PercentRow) → n ≤ most → IsPercentWithin row → IsLineOf (codes "percent,") (percent_of name) (percent_line name row) row
  each_percent most n row few within = percent_back name row whole within

  rows_back : (rows : List Row) (rest : List ℕ) → length rows ≤ MOST_COUNT → All IsRowWithin rows → stops (codes "row,") (parts rest) ≡ true
      → rows_of name 0 (parts (numbered_lines (row_line name) rows ++ rest)) ≡ Ok (rows, parts rest)
  rows_back rows rest few within stop =
      many_back (codes "row,") (row_of name) (row_line name) (λ row. row) IsRowWithin MOST_COUNT each_row 0 rows rest (omega (arith, few)) within stop
      ∙ ap (λ own. Ok (own, parts rest)) (map-id rows)

  corners_back : (corners : List Position) (rest : List ℕ) → length corners ≤ MOST_COUNT → All IsWithinLimits corners → stops (codes "corner,") (parts rest) ≡ true
      → corners_of name 0 (parts (numbered_lines (corner_line name) corners ++ rest)) ≡ Ok (map corner_from corners, parts rest)
  corners_back corners rest few within stop =
      many_back (codes "corner,") (corner_of name) (corner_line name) corner_from IsWithinLimits MOST_COUNT each_corner 0 corners rest (omega (arith, few)) within stop

  percents_back : (percents : List PercentRow) (rest : List ℕ) → All IsPercentWithin percents → stops (codes "percent,") (parts rest) ≡ true
      → percents_of name 0 (parts (flat_map (percent_line name) percents ++ rest)) ≡ Ok (percents, parts rest)
  percents_back percents rest within stop =
      ap (λ lines. percents_of name 0 (parts (lines ++ rest))) (sym (same_lines (percent_line name) 1 percents))
      ∙ many_back (codes "percent,") (λ _. percent_of name) (λ _. percent_line name) (λ row. row) IsPercentWithin (length percents)
      (each_percent (length percents)) 0 percents rest (omega arith) within stop
      ∙ ap (λ own. Ok (own, parts rest)) (map-id percents)

  stops_percents : (other : List ℕ) (percents : List PercentRow) (rest : List ℕ) → Differ other (codes "percent,") → All IsPercentWithin percents
      → stops other (parts rest) ≡ true → stops other (parts (flat_map (percent_line name) percents ++ rest)) ≡ true
  stops_percents other percents rest differ within stop =
      ap (λ lines. stops other (parts (lines ++ rest))) (sym (same_lines (percent_line name) 1 percents))
      ∙ stops_many (codes "percent,") (λ _. percent_of name) (λ _. percent_line name) (λ row. row) IsPercentWithin 1 (each_percent 1) other 1 percents rest differ
      (omega arith) within stop

  -- corners and percent polygons
  polygons_back : (extent : Extent) (rows : List Row) (corners : List Position) (percents : List PercentRow) (rest : List ℕ) → length corners ≤ MOST_COUNT
      → All IsWithinLimits corners → All IsPercentWithin percents → EndsAnimal rest
      → polygons_of name extent rows (parts (numbered_lines (corner_line name) corners ++ (flat_map (percent_line name) percents ++ rest)))
      ≡ Ok (record { name = name; extent = extent; rows = rows; corners = map corner_from corners; percents = percents }, parts rest)
  unfolding polygons_of
  polygons_back extent rows corners percents rest few corners_within percents_within ends =
      let others = flat_map (percent_line name) percents ++ rest in
      then_found _ _ (map corner_from corners) (parts others) _
      (corners_back corners others few corners_within
      (stops_percents (codes "corner,") percents rest corner_differs_percent percents_within ends.no_corner))
      (then_found _ _ percents (parts rest) _ (percents_back percents rest percents_within ends.no_percent) refl)

  -- no row stands behind the rows
  rows_end : (corners : List Position) (percents : List PercentRow) (rest : List ℕ) → All IsWithinLimits corners → All IsPercentWithin percents → EndsAnimal rest
      → stops (codes "row,") (parts (numbered_lines (corner_line name) corners ++ (flat_map (percent_line name) percents ++ rest))) ≡ true
  rows_end corners percents rest corners_within percents_within ends =
      stops_many (codes "corner,") (corner_of name) (corner_line name) corner_from IsWithinLimits MOST_COUNT each_corner (codes "row,") 1 corners
      (flat_map (percent_line name) percents ++ rest) row_differs_corner (omega arith) corners_within
      (stops_percents (codes "row,") percents rest row_differs_percent percents_within ends.no_row)

six_parts : (a b c d e rest : List ℕ) → a ++ b ++ c ++ d ++ e ++ rest ≡ a ++ (b ++ (c ++ (d ++ (e ++ rest))))
six_parts a b c d e rest = simp append_assoc

animal_back : (animal : Animal) (rest : List ℕ) → IsAnimalWithin animal → EndsAnimal rest
    → animal_of (parts (animal_text animal ++ rest)) ≡ Ok (animal_from animal, parts rest)
unfolding animal_of animal_text
animal_back animal rest within ends =
    let name = animal.name in
    let whole = name_lacks 10 name refl within.named in
    let head = animal_line name (length animal.rows) in
    let box = box_line name animal.extent in
    let rows = numbered_lines (row_line name) animal.rows in
    let corners = numbered_lines (corner_line name) animal.polygon in
    let percents = flat_map (percent_line name) animal.percents in
    ap (λ text. animal_of (parts text)) (six_parts head box rows corners percents rest)
    ∙ then_found _ _ (name, length animal.rows) _ _
    (one_back (head_back name (length animal.rows) (name_lacks 44 name refl within.named) whole within.few_rows) (box ++ (rows ++ (corners ++ (percents ++ rest)))))
    (then_found _ _ animal.extent _ _ (one_back (box_back name animal.extent whole within.extent) (rows ++ (corners ++ (percents ++ rest))))
    (then_found _ _ animal.rows _ _
    (rows_back name whole animal.rows (corners ++ (percents ++ rest)) within.few_rows within.rows
    (rows_end name whole animal.polygon animal.percents rest within.corners within.percents ends))
    (rw (eq-eqb (length animal.rows) (length animal.rows) refl)
    (polygons_back name whole animal.extent animal.rows animal.polygon animal.percents rest within.few_corners within.corners within.percents ends))))

-- ---- animals
-- no line of an animal stands next
pub record EndsAnimals (rest : List ℕ) : Type 0 where
  pub last : EndsAnimal rest
  pub no_animal : stops (codes "animal,") (parts rest) ≡ true

-- an animal begins with its first line
head_first : (animal : Animal) (rest : List ℕ) → (more : List ℕ) × (animal_text animal ++ rest ≡ animal_line animal.name (length animal.rows) ++ more)
unfolding animal_text
head_first animal rest = (
  _,
  six_parts (animal_line animal.name (length animal.rows)) (box_line animal.name animal.extent) (numbered_lines (row_line animal.name) animal.rows)
      (numbered_lines (corner_line animal.name) animal.polygon) (flat_map (percent_line animal.name) animal.percents) rest,
)

head_of_animal : (animal : Animal) → IsAnimalWithin animal
    → IsLineOf (codes "animal,") head_of (animal_line animal.name (length animal.rows)) (animal.name, length animal.rows)
head_of_animal animal within =
    head_back animal.name (length animal.rows) (name_lacks 44 animal.name refl within.named) (name_lacks 10 animal.name refl within.named) within.few_rows

stops_animals : (other : List ℕ) (animals : List Animal) (rest : List ℕ) → Differ other (codes "animal,") → All IsAnimalWithin animals → stops other (parts rest) ≡ true
    → stops other (parts (flat_map animal_text animals ++ rest)) ≡ true
stops_animals other [] rest differ within stop = stop
stops_animals other (animal ∷ animals) rest differ within stop =
    let start = head_first animal (flat_map animal_text animals ++ rest) in
    rw (append_assoc (animal_text animal) (flat_map animal_text animals) rest, start.1)
    (stops_at (head_of_animal animal (All-head IsAnimalWithin animal animals within)) other start.0 differ)

ends_animal : (animals : List Animal) (rest : List ℕ) → All IsAnimalWithin animals → EndsAnimal rest → EndsAnimal (flat_map animal_text animals ++ rest)
ends_animal animals rest within ends = record {
  no_row = stops_animals (codes "row,") animals rest row_differs_animal within ends.no_row;
  no_corner = stops_animals (codes "corner,") animals rest corner_differs_animal within ends.no_corner;
  no_percent = stops_animals (codes "percent,") animals rest percent_differs_animal within ends.no_percent;
}

animals_end : (more : ℕ) (lines : List (List ℕ)) → stops (codes "animal,") lines ≡ true → animals_from more lines ≡ Ok ([], lines)
unfolding animals_from
animals_end zero lines stop = refl
animals_end (suc more) lines stop = rw stop refl

pub animals_back : (more : ℕ) (animals : List Animal) (rest : List ℕ) → length animals ≤ more → All IsAnimalWithin animals → EndsAnimals rest
    → animals_from more (parts (flat_map animal_text animals ++ rest)) ≡ Ok (map animal_from animals, parts rest)
unfolding animals_from
animals_back more [] rest few within ends = animals_end more (parts rest) ends.no_animal
animals_back zero (animal ∷ animals) rest few within ends = absurd (omega (arith, few))
animals_back (suc more) (animal ∷ animals) rest few within ends =
    let others = flat_map animal_text animals ++ rest in
    let own = All-head IsAnimalWithin animal animals within in
    let later = All-tail IsAnimalWithin animal animals within in
    let start = head_first animal others in
    let go : stops (codes "animal,") (parts (animal_text animal ++ others)) ≡ false =
    ap (λ text. stops (codes "animal,") (parts text)) start.1 ∙ goes_on (head_of_animal animal own) start.0 in
    rw (append_assoc (animal_text animal) (flat_map animal_text animals) rest, go)
    (then_found _ _ (animal_from animal) (parts others) _ (animal_back animal others own (ends_animal animals rest later ends.last))
    (ap (put (animal_from animal ∷ [])) (animals_back more animals rest (omega (arith, few)) later ends)))
