-- A report, by the animals that were read.
use Rattle.std.proofs.Common.{◌≡◌, ℕ, List, [], ◌∷◌, length, map, Ok, refl, ap}
use Rattle.std.proofs.lemmas.List.{length-map}
use Rattle.range_plane.specs.declared.scale.Scale.{Scale}
use Rattle.page_report.specs.declared.animal.ReadAnimal.{ReadAnimal}
use Rattle.page_report.specs.Reading.{Found, Read, ended, overlaps_from, report_with, said, then_read}

-- what report_with says, by animals as they are in memory
abbrev pub report_by : Scale → List ReadAnimal → List (List ℕ) → Found Read
report_by unit animals lines =
    then_read (overlaps_from (map (λ animal. animal.name.items) animals) (length animals) 0 (length animals) lines)
    (λ overlaps last. then_read (ended (length animals) last) (λ own behind. Ok (record { unit = unit; animals = map said animals; overlaps = overlaps }, behind)))

names_same : (animals : List ReadAnimal) → map (λ animal. animal.name) (map said animals) ≡ map (λ animal. animal.name.items) animals
names_same [] = refl
names_same (animal ∷ animals) = ap (λ names. animal.name.items ∷ names) (names_same animals)

pub same_report : (unit : Scale) (animals : List ReadAnimal) (lines : List (List ℕ)) → report_by unit animals lines ≡ report_with unit (map said animals) lines
unfolding report_with
same_report unit animals lines = rw (names_same animals, length-map animals) refl
