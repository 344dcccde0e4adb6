-- What stands in the track of an animal, and in which order.
use Rattle.std.specs.Prelude.{ℕ, ◌+◌, ◌*◌, ◌==◌, List, [], ◌∷◌, map, nat_lt, if◌then◌else◌}
use Rattle.std.specs.List.{flat_map, range_with_len}
use Rattle.split_tracks.specs.declared.fate.Entry.{Entry}
use Rattle.split_tracks.specs.declared.fate.Fate.{Fate}
use Rattle.split_tracks.specs.declared.fate.Fate.TheVariants.{InTrack, LeftOut}

-- the entry that a record has in the track of this animal, if it has one
abbrev pub entry_in : ℕ → Fate → List Entry
entry_in animal (InTrack other entry) = if other == animal then entry ∷ [] else []
entry_in animal (LeftOut other reason) = []

-- the entries that records have in the track of this animal, in the order of records
abbrev pub entries_of : List Fate → ℕ → List Entry
entries_of fates animal = flat_map (entry_in animal) fates

-- the same of each of so many animals
abbrev pub entries_by_animal : ℕ → List Fate → List (List Entry)
entries_by_animal animals fates = map (entries_of fates) (range_with_len 0 animals)

-- when an entry was, in nanoseconds
abbrev pub time_of : Entry → ℕ
time_of entry = entry.moment.second * 1_000_000_000 + entry.moment.nanosecond

-- entries in the order of time, and one more, which stands before all that are not earlier
unfoldable pub put_in : Entry → List Entry → List Entry
put_in entry [] = entry ∷ []
put_in entry (first ∷ others) = if nat_lt (time_of first) (time_of entry) then first ∷ put_in entry others else entry ∷ first ∷ others

-- entries in the order of time, those of one time in the order that they have
unfoldable pub in_order : List Entry → List Entry
in_order [] = []
in_order (entry ∷ others) = put_in entry (in_order others)

-- the track of each of so many animals
abbrev pub tracks_of : ℕ → List Fate → List (List Entry)
tracks_of animals fates = map in_order (entries_by_animal animals fates)
