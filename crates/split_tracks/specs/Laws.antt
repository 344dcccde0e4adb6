-- Each record has one place, and tracks are in the order of time.
use Rattle.std.specs.Prelude.{◌≡◌, ◌+◌, ◌<◌, ⊤, ℕ, Bool, true, false, List, [], ◌∷◌, length, nat_lt, All}
use Rattle.std.specs.List.{count_by, flat_map}
use Rattle.std.specs.List.Sorted.{IsPermutation, IsSortedBy, IsStableBy}
use Rattle.split_tracks.specs.declared.fate.Entry.{Entry}
use Rattle.split_tracks.specs.declared.fate.Fate.{Fate}
use Rattle.split_tracks.specs.declared.fate.Fate.TheVariants.{InTrack, LeftOut}
use Rattle.split_tracks.specs.Tracks.{in_order, time_of, tracks_of}

-- the entry of a record, if it has one
abbrev pub entry_of : Fate → List Entry
entry_of (InTrack animal entry) = entry ∷ []
entry_of (LeftOut animal reason) = []

-- whether a record is left out
abbrev pub is_left_out : Fate → Bool
is_left_out (InTrack animal entry) = false
is_left_out (LeftOut animal reason) = true

-- a record that is in a track is in that of one of so many animals
abbrev pub IsOfAnimals : ℕ → Fate → Type 0
IsOfAnimals animals (InTrack animal entry) = animal < animals
IsOfAnimals animals (LeftOut animal reason) = ⊤

-- the tracks have the entries of all records, each once; and all other records are left out
abbrev pub EveryRecordHasOnePlace : Type 0
EveryRecordHasOnePlace = (animals : ℕ) (fates : List Fate) → All (IsOfAnimals animals) fates
    → IsPermutation (flat_map entry_of fates) (flat_map (λ track. track) (tracks_of animals fates))
    × (length (flat_map entry_of fates) + count_by is_left_out fates ≡ length fates)

-- whether an entry is of an earlier time than another
abbrev pub is_earlier : Entry → Entry → Bool
is_earlier a b = nat_lt (time_of a) (time_of b)

-- a track has its entries, sorted by time, and those of one time in the order that they had
abbrev pub TracksAreInTheOrderOfTime : Type 0
TracksAreInTheOrderOfTime = (entries : List Entry)
    → IsPermutation entries (in_order entries) × IsSortedBy is_earlier (in_order entries) × IsStableBy is_earlier entries (in_order entries)
