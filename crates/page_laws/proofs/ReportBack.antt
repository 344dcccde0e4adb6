-- A report, read back.
use Rattle.std.proofs.Common.{◌≡◌, ◌≤◌, ℕ, true, List, [], ◌∷◌, ◌++◌, length, map, Ok, None, Some, refl, ap, sym, ◌∙◌, codes, arith, append_assoc, append-nil}
use Rattle.std.specs.List.{All, flat_map}
use Rattle.std.proofs.lemmas.List.{length-append, length-map}
use Rattle.std.proofs.lemmas.List.Elements.{All-head, All-map, All-weaker}
use Rattle.range_plane.specs.declared.scale.Scale.{Scale}
use Rattle.range_plane.specs.declared.scale.Scale.TheVariants.{Metre, Decimetre}
use Rattle.range_analysis.specs.declared.analysis.Analysis.{Analysis}
use Rattle.range_analysis.specs.declared.animal.Animal.{Animal}
use Rattle.range_analysis.specs.declared.animal.OverlapRow.{OverlapRow}
use Rattle.range_report.specs.Report.{animal_text, end_line, overlap_line, report_text, unit_line}
use Rattle.page_report.specs.Fields.{behind}
use Rattle.page_report.specs.Reading.{ended, found_in, last_of, one, parts, report_behind, report_in, report_of, report_with, stops}
use Rattle.page_report.specs.declared.fields.TheConstants.{MOST_COUNT}
use Rattle.page_laws.specs.Back.{animal_from, overlap_from, report_from}
use Rattle.page_laws.specs.Within.{IsAnalysisWithin, IsAnimalWithin, IsOverlapWithin}
use Rattle.page_laws.proofs.AnimalsBack.{EndsAnimals, animals_back}
use Rattle.page_laws.proofs.FieldsBack.{Lacks, behind_word}
use Rattle.page_laws.proofs.LinesBack.{end_back}
use Rattle.page_laws.proofs.ManyBack.{Differ, one_back, stops_at, then_found}
use Rattle.page_laws.proofs.Names.{name_lacks}
use Rattle.page_laws.proofs.OverlapsBack.{line_of, overlaps_back}

-- ---- kinds of lines
row_differs_overlap : Differ (codes "row,") (codes "overlap,")
unfolding behind
row_differs_overlap said = refl

row_differs_end : Differ (codes "row,") (codes "end,")
unfolding behind
row_differs_end said = refl

corner_differs_overlap : Differ (codes "corner,") (codes "overlap,")
unfolding behind
corner_differs_overlap said = refl

corner_differs_end : Differ (codes "corner,") (codes "end,")
unfolding behind
corner_differs_end said = refl

percent_differs_overlap : Differ (codes "percent,") (codes "overlap,")
unfolding behind
percent_differs_overlap said = refl

percent_differs_end : Differ (codes "percent,") (codes "end,")
unfolding behind
percent_differs_end said = refl

animal_differs_overlap : Differ (codes "animal,") (codes "overlap,")
unfolding behind
animal_differs_overlap said = refl

animal_differs_end : Differ (codes "animal,") (codes "end,")
unfolding behind
animal_differs_end said = refl

-- ---- what stands behind animals
ended_back : (animals : ℕ) → animals ≤ MOST_COUNT → ended animals (parts (end_line animals)) ≡ Ok (animals, parts [])
unfolding ended
ended_back animals few =
    then_found _ _ animals (parts []) _
    (ap (λ text. one (last_of animals) (parts text)) (sym (append-nil (end_line animals))) ∙ one_back (end_back animals few) []) refl

-- the overlaps of animals of these names, and the last line
abbrev tail : List (List ℕ) → List OverlapRow → ℕ → List ℕ
tail names overlaps animals = flat_map (overlap_line names) overlaps ++ end_line animals

stops_tail : (names : List (List ℕ)) (overlaps : List OverlapRow) (animals : ℕ) (other : List ℕ) → All (Lacks 10) names → All IsOverlapWithin overlaps → animals ≤ MOST_COUNT
    → Differ other (codes "overlap,") → Differ other (codes "end,") → stops other (parts (tail names overlaps animals)) ≡ true
stops_tail names [] animals other whole within few overlap end =
    ap (λ text. stops other (parts text)) (sym (append-nil (end_line animals))) ∙ stops_at (end_back animals few) other [] end
stops_tail names (row ∷ rows) animals other whole within few overlap end =
    ap (λ text. stops other (parts text)) (append_assoc (overlap_line names row) (flat_map (overlap_line names) rows) (end_line animals))
    ∙ stops_at (line_of names whole row (All-head IsOverlapWithin row rows within)) other (tail names rows animals) overlap

ends_animals : (names : List (List ℕ)) (overlaps : List OverlapRow) (animals : ℕ) → All (Lacks 10) names → All IsOverlapWithin overlaps → animals ≤ MOST_COUNT
    → EndsAnimals (tail names overlaps animals)
ends_animals names overlaps animals whole within few = record {
  last = record {
    no_row = stops_tail names overlaps animals (codes "row,") whole within few row_differs_overlap row_differs_end;
    no_corner = stops_tail names overlaps animals (codes "corner,") whole within few corner_differs_overlap corner_differs_end;
    no_percent = stops_tail names overlaps animals (codes "percent,") whole within few percent_differs_overlap percent_differs_end;
  };
  no_animal = stops_tail names overlaps animals (codes "animal,") whole within few animal_differs_overlap animal_differs_end;
}

-- ---- names
same_names : (animals : List Animal) → map (λ animal. animal.name) (map animal_from animals) ≡ map (λ animal. animal.name) animals
same_names [] = refl
same_names (animal ∷ animals) = ap (λ names. animal.name ∷ names) (same_names animals)

names_whole : (animals : List Animal) → All IsAnimalWithin animals → All (Lacks 10) (map (λ animal. animal.name) animals)
names_whole animals within =
    All-map (Lacks 10) (λ (animal : Animal). animal.name) animals
    (All-weaker IsAnimalWithin (λ animal. Lacks 10 animal.name) (λ animal own. name_lacks 10 animal.name refl own.named) animals within)

-- ---- all lines
-- each animal has a byte at least
animal_begins : (animal : Animal) → (more : List ℕ) × (animal_text animal ≡ 97 ∷ more)
unfolding animal_text
animal_begins animal = (_, refl)

as_many_bytes : (animals : List Animal) (rest : List ℕ) → length animals ≤ length (flat_map animal_text animals ++ rest)
as_many_bytes [] rest = omega arith
as_many_bytes (animal ∷ animals) rest =
    let begins = animal_begins animal in
    let others = flat_map animal_text animals in
    omega (arith, as_many_bytes animals rest, length-append (animal_text animal ++ others) rest, length-append (animal_text animal) others, length-append others rest, ap length begins.1)

-- no unit stands before animals, overlaps or the last line
no_unit : (animals : List Animal) (names : List (List ℕ)) (overlaps : List OverlapRow) (count : ℕ)
    → behind (codes "unit,dm\n") (flat_map animal_text animals ++ tail names overlaps count) ≡ None
unfolding behind animal_text
no_unit [] names [] count = refl
no_unit [] names (row ∷ rows) count = refl
no_unit (animal ∷ animals) names overlaps count = refl

by_unit : (unit : Scale) (rest : List ℕ) → behind (codes "unit,dm\n") rest ≡ None → report_of (unit_line unit ++ rest) ≡ report_in unit rest
by_unit Metre rest none = ap (report_behind rest) none
by_unit Decimetre rest none = ap (report_behind (codes "unit,dm\n" ++ rest)) (behind_word (codes "unit,dm\n") rest)

module _ (analysis : Analysis) (within : IsAnalysisWithin analysis) where
  abbrev names : List (List ℕ)
  names = map (λ animal. animal.name) analysis.animals

  abbrev count : ℕ
  count = length analysis.animals

  abbrev behind_animals : List ℕ
  behind_animals = tail names analysis.overlaps count

  with_back : report_with analysis.unit (map animal_from analysis.animals) (parts behind_animals) ≡ Ok (report_from analysis, parts [])
  unfolding report_with
  with_back =
      rw (same_names analysis.animals, length-map analysis.animals animal_from)
      (then_found _ _ (map overlap_from analysis.overlaps) (parts (end_line count)) _
      (overlaps_back names (names_whole analysis.animals within.animals) count 0 count analysis.overlaps (end_line count) within.paired within.overlaps)
      (then_found _ _ count (parts []) _ (ended_back count within.few) refl))

  in_back : report_in analysis.unit (flat_map animal_text analysis.animals ++ behind_animals) ≡ Ok (report_from analysis, parts [])
  unfolding report_in
  in_back =
      then_found _ _ (map animal_from analysis.animals) (parts behind_animals) _
      (animals_back (length (flat_map animal_text analysis.animals ++ behind_animals)) analysis.animals behind_animals
      (as_many_bytes analysis.animals behind_animals) within.animals
      (ends_animals names analysis.overlaps count (names_whole analysis.animals within.animals) within.overlaps within.few))
      with_back

  text_parts : report_text analysis ≡ unit_line analysis.unit ++ (flat_map animal_text analysis.animals ++ behind_animals)
  unfolding report_text
  text_parts = simp append_assoc

  -- what is within the limits of a report is read back
  pub report_back : found_in (report_of (report_text analysis)) ≡ Some (report_from analysis)
  report_back =
      ap (λ text. found_in (report_of text)) text_parts
      ∙ ap found_in (by_unit analysis.unit (flat_map animal_text analysis.animals ++ behind_animals) (no_unit analysis.animals names analysis.overlaps count) ∙ in_back)
