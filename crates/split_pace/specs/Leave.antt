-- The fates of records, once a filter leaves some out.
use Rattle.std.specs.Prelude.{ℕ, ◌==◌, Bool, List, Some, map, if◌then◌else◌}
use Rattle.std.specs.List.{enumerate_from, flat_map, list_any}
use Rattle.split_tracks.specs.declared.fate.Entry.{Entry}
use Rattle.split_tracks.specs.declared.fate.Fate.{Fate}
use Rattle.split_tracks.specs.declared.fate.Fate.TheVariants.{InTrack, LeftOut}
use Rattle.split_tracks.specs.declared.fate.Reason.{Reason}
use Rattle.split_tracks.specs.declared.fate.Reason.TheVariants as reason
use Rattle.split_tracks.specs.Tracks.{tracks_of}
use Rattle.split_pace.specs.declared.filter.Filter.{Filter}
use Rattle.split_pace.specs.declared.filter.Filter.TheVariants.{Every, MaxSpeed}
use Rattle.split_pace.specs.Every.{is_first, piece_of}
use Rattle.split_pace.specs.Filters.{left_of}
use Rattle.split_pace.specs.Speed.{is_slow_enough}

-- whether an entry passes a filter beside those that it keeps before it
abbrev pub passes : Filter → List Entry → Entry → Bool
passes (MaxSpeed unit speed) kept entry = is_slow_enough unit speed kept entry
passes (Every length clock) kept entry = is_first (piece_of length clock.now.zone) kept entry

-- why a filter leaves records out
abbrev pub reason_of : Filter → Reason
reason_of (MaxSpeed unit speed) = reason.Speed
reason_of (Every length clock) = reason.Every

-- the numbers of the records that a filter leaves out of tracks
abbrev pub left_records : Filter → List (List Entry) → List ℕ
left_records filter tracks = flat_map (left_of (passes filter)) tracks

-- the fate of a record that is left out
abbrev pub left_fate : Reason → Fate → Fate
left_fate reason (InTrack animal entry) = LeftOut (Some animal) reason
left_fate reason (LeftOut animal why) = LeftOut animal why

-- whether a number is one of some
abbrev pub is_among : List ℕ → ℕ → Bool
is_among numbers number = list_any (λ one. one == number) numbers

-- the fate of a record by its number, once the records of some numbers are left out
abbrev pub fate_after : Reason → List ℕ → ℕ × Fate → Fate
fate_after reason left numbered = if is_among left numbered.0 then left_fate reason numbered.1 else numbered.1

-- the fates of records, which are numbered from 1, once those of some numbers are left out
abbrev pub fates_after : Reason → List ℕ → List Fate → List Fate
fates_after reason left fates = map (fate_after reason left) (enumerate_from 1 fates)

-- the fates of records, once a filter leaves some out of the tracks of so many animals
abbrev pub without : Filter → ℕ → List Fate → List Fate
without filter animals fates = fates_after (reason_of filter) (left_records filter (tracks_of animals fates)) fates
