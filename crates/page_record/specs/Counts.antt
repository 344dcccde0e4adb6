-- How many records of the export an animal has, and how many of them were left out.
use Rattle.std.specs.Prelude.{◌≡◌, ◌≤◌, ℕ, Bool, true, ◌==◌, ◌+◌, ◌-◌, ◌*◌, ◌^◌, ◌&&◌, if◌then◌else◌, List, [], ◌∷◌, length, slice_index, Option, Some, None, unwrap_or, Vec}
use Rattle.std.specs.List.{sum_by}
use Rattle.std.specs.Map.{lookup}
use Rattle.std.specs.Str.{bytes_eq}
use Rattle.split_tracks.specs.declared.fate.Reason.{Reason}
use Rattle.split_tracks.specs.declared.fate.Reason.TheVariants as reasons
use Rattle.page_record.specs.Reading.{LeftSaid, Read, TrackSaid}
use Rattle.page_record.specs.declared.counts.Counts.{Counts}
use Rattle.page_record.specs.declared.counts.TheConstants.{NO_COUNTS}
use Rattle.page_record.specs.declared.record.Made.{Made}

-- the place of a reason in the order in which reasons are asked
abbrev pub place_in : Reason → ℕ
place_in reasons.Animal = 0
place_in reasons.Coordinates = 1
place_in reasons.Zero = 2
place_in reasons.Sensor = 3
place_in reasons.Outlier = 4
place_in reasons.Class = 5
place_in reasons.NoDop = 6
place_in reasons.Dop = 7
place_in reasons.Type = 8
place_in reasons.Before = 9
place_in reasons.After = 10
place_in reasons.Grid = 11
place_in reasons.Speed = 12
place_in reasons.Every = 13

-- a number, where something is so
abbrev pub count_if : Bool → ℕ → ℕ
count_if is_so number = if is_so then number else 0

-- ---- an animal, or all where none is named
-- whether a name is that of the animal
abbrev pub is_of : Option (List ℕ) → List ℕ → Bool
is_of None name = true
is_of (Some animal) name = bytes_eq animal name

-- how many fixes a line says that were left out, for a reason or for any
abbrev pub is_for : Option Reason → Reason → Bool
is_for None reason = true
is_for (Some wanted) reason = place_in wanted == place_in reason

abbrev pub left_by : Option (List ℕ) → Option Reason → LeftSaid → ℕ
left_by animal reason left = count_if (is_of animal left.name && is_for reason left.reason) left.count

-- how many records of a track are not used: outliers that are marked
abbrev pub marked_by : Option (List ℕ) → Reason → TrackSaid → ℕ
marked_by animal reason track = count_if (is_of animal track.name && place_in reason == place_in reasons.Outlier) (track.records - track.used)

-- how many records a track has
abbrev pub records_by : Option (List ℕ) → TrackSaid → ℕ
records_by animal track = count_if (is_of animal track.name) track.records

-- the same of a track in memory: how many of its records were left out for a reason, or how many it has
abbrev pub counted : Option Reason → Made → ℕ
counted None made = made.records
counted (Some reason) made = count_if (place_in reason == place_in reasons.Outlier) (made.records - made.used)

abbrev pub counted_by : Option Reason → TrackSaid → ℕ
counted_by None track = records_by None track
counted_by (Some reason) track = marked_by None reason track

-- how many fixes were left out for a reason
unfoldable pub left_of : Read → Option (List ℕ) → Reason → ℕ
left_of own animal reason = sum_by (left_by animal (Some reason)) own.left + sum_by (marked_by animal reason) own.tracks

-- how many records the export has
unfoldable pub records_of : Read → Option (List ℕ) → ℕ
records_of own animal = sum_by (left_by animal None) own.left + sum_by (records_by animal) own.tracks

-- ---- a table of animals
-- the counts of an animal; those of one that is not there are 0
abbrev pub counts_at : {A : Type 0} → List ℕ → List (Vec ℕ A × Counts) → Counts
counts_at {A} animal entries = unwrap_or (lookup (λ (key : Vec ℕ A). bytes_eq animal key.items) entries) NO_COUNTS

-- the count of a reason
abbrev pub left_in : Counts → Reason → ℕ
left_in counts reason = slice_index counts.left (place_in reason)

-- no count is more than a number
pub record AreUpTo (most : ℕ) (counts : Counts) : Type 0 where
  pub records : counts.records ≤ most
  pub left : (reason : Reason) → left_in counts reason ≤ most

-- counts with so many records more, of which so many were left out for a reason
pub record AreMore (records : ℕ) (reason : Reason) (left : ℕ) (old new : Counts) : Type 0 where
  pub more : new.records ≡ old.records + records
  pub more_left : (other : Reason) → left_in new other ≡ left_in old other + count_if (place_in other == place_in reason) left

-- a table in which an animal has so many more, and no other
pub record Adds {A : Type 0} (animal : List ℕ) (records : ℕ) (reason : Reason) (left : ℕ) (old new : List (Vec ℕ A × Counts)) : Type 0 where
  pub more : (name : List ℕ) → (counts_at {A = A} name new).records ≡ (counts_at {A = A} name old).records + count_if (bytes_eq name animal) records
  pub more_left : (name : List ℕ) (other : Reason) → left_in (counts_at {A = A} name new) other
      ≡ left_in (counts_at {A = A} name old) other + count_if (bytes_eq name animal && place_in other == place_in reason) left

-- a table has the counts of each animal of these lines of what was left out, and of these tracks
pub record IsTallyOf {A : Type 0} (left : List LeftSaid) (tracks : List TrackSaid) (entries : List (Vec ℕ A × Counts)) : Type 0 where
  pub records : (animal : List ℕ) → (counts_at {A = A} animal entries).records ≡ sum_by (left_by (Some animal) None) left + sum_by (records_by (Some animal)) tracks
  pub left_out : (animal : List ℕ) (reason : Reason) → left_in (counts_at {A = A} animal entries) reason
      ≡ sum_by (left_by (Some animal) (Some reason)) left + sum_by (marked_by (Some animal) reason) tracks
  pub small : (animal : List ℕ) → AreUpTo ((length left + length tracks) * 2 ^ 32) (counts_at {A = A} animal entries)

-- a table has the counts of each animal of a record
pub record IsTally {A : Type 0} (own : Read) (entries : List (Vec ℕ A × Counts)) : Type 0 where
  pub records : (animal : List ℕ) → (counts_at {A = A} animal entries).records ≡ records_of own (Some animal)
  pub left : (animal : List ℕ) (reason : Reason) → left_in (counts_at {A = A} animal entries) reason ≡ left_of own (Some animal) reason

-- ---- a track
-- what was made of an animal
abbrev pub made_in : List ℕ → List TrackSaid → Option Made
made_in animal [] = None
made_in animal (track ∷ others) =
    if bytes_eq animal track.name then Some (record { records = track.records; used = track.used; sum = track.sum }) else made_in animal others
