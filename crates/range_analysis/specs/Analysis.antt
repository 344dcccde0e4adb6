-- The analysis of what files gave, or why they have none.
use Rattle.std.specs.Prelude.{◌≡◌, ℕ, ⊤, List, length, map, Some, None}
use Rattle.std.specs.List.{AllZip}
use Rattle.range_plane.specs.declared.scale.Scale.{Scale}
use Rattle.range_analysis.specs.Names.{name_at}
use Rattle.range_analysis.specs.Animals.{IsAnimal, IsOverlap, pairs}
use Rattle.range_analysis.specs.declared.analysis.Analysis.{Analysis}
use Rattle.range_analysis.specs.declared.animal.Animal.{Animal}
use Rattle.range_analysis.specs.Entries.{Entry, of_animal, of_fault, first_fault, names_of, points_in}
use Rattle.range_analysis.specs.Names.{IsFirstRepeat}
use Rattle.range_analysis.specs.declared.analyse_fault.AnalyseFault.{AnalyseFault}
use Rattle.range_analysis.specs.declared.analyse_fault.AnalyseFault.TheVariants.{OutOfMemory, LineCut, File, SameAnimal}

-- this is the animal that a file's entry gives, with percent polygons at these levels; an entry that is a fault gives
-- none
abbrev pub IsAnimalOf : List ℕ → Entry → Animal → Type 0
IsAnimalOf levels (of_animal name fixes) animal = IsAnimal levels name fixes animal
IsAnimalOf levels (of_fault fault) animal = ⊥

-- all files could be read to their ends, no two have the same animal, and the analysis has the animal of each, the
-- overlap of each ordered pair, and this unit
pub record IsAnalysis (entries : List Entry) (levels : List ℕ) (unit : Scale) (analysis : Analysis) : Type 0 where
  pub whole : first_fault entries ≡ None
  pub differ : IsFirstRepeat (names_of entries) None
  pub animals : AllZip (IsAnimalOf levels) entries analysis.animals
  pub overlaps : AllZip (IsOverlap (map points_in entries)) (pairs (length entries)) analysis.overlaps
  pub same_unit : analysis.unit ≡ unit

-- why entries have no analysis: the fault of the first file that has one, else the first animal that an earlier file
-- has too; memory may always run out
abbrev pub HasNoAnalysis : List Entry → AnalyseFault → Type 0
HasNoAnalysis entries OutOfMemory = ⊤
HasNoAnalysis entries (LineCut file) = ⊥
HasNoAnalysis entries (File file fault) = first_fault entries ≡ Some (File file fault)
HasNoAnalysis entries (SameAnimal first second animal) =
    (first_fault entries ≡ None) × IsFirstRepeat (names_of entries) (Some (first, second)) × (animal ≡ name_at (names_of entries) first)
