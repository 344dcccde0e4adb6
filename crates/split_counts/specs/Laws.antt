-- Each record is in a track or in one count, and what a count counts.
use Rattle.std.specs.Prelude.{◌≡◌, ◌+◌, ⊤, ℕ, Bool, true, false, List, Option, length, All, Decides}
use Rattle.std.specs.List.{count_by, sum}
use Rattle.split_tracks.specs.declared.fate.Fate.{Fate}
use Rattle.split_tracks.specs.declared.fate.Fate.TheVariants.{InTrack, LeftOut}
use Rattle.split_tracks.specs.declared.fate.Reason.{Reason}
use Rattle.split_counts.specs.Counts.{is_left, is_one_of, left_counts}

-- whether a record is in a track
abbrev pub is_in_track : Fate → Bool
is_in_track (InTrack animal entry) = true
is_in_track (LeftOut animal reason) = false

-- a record that is left out is of one of so many animals, or names none
abbrev pub IsLeftOfAnimals : ℕ → Fate → Type 0
IsLeftOfAnimals animals (InTrack animal entry) = ⊤
IsLeftOfAnimals animals (LeftOut animal reason) = is_one_of animals animal ≡ true

-- the counts together have all records that are not in tracks, each once
abbrev pub EveryRecordIsCountedOnce : Type 0
EveryRecordIsCountedOnce = (animals : ℕ) (fates : List Fate) → All (IsLeftOfAnimals animals) fates
    → sum (left_counts animals fates) + count_by is_in_track fates ≡ length fates

-- a record is counted for an animal, or for none, and for a reason if it is left out with these, and only then
abbrev pub OneAnimalAndOneReasonAreCounted : Type 0
OneAnimalAndOneReasonAreCounted = (animal : Option ℕ) (reason : Reason) (fate : Fate) → Decides (is_left animal reason fate) (fate ≡ LeftOut animal reason)
