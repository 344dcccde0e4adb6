-- How many records are left out, by animal and reason.
use Rattle.std.specs.Prelude.{◌≡◌, ℕ, ◌+◌, ◌*◌, ◌==◌, ◌&&◌, Bool, true, false, List, Option, Some, None, map, nat_lt, if◌then◌else◌}
use Rattle.std.specs.List.{count_by, range_with_len}
use Rattle.split_tracks.specs.declared.fate.Fate.{Fate}
use Rattle.split_tracks.specs.declared.fate.Fate.TheVariants.{InTrack, LeftOut}
use Rattle.split_tracks.specs.declared.fate.Reason.{Reason}
use Rattle.split_tracks.specs.declared.fate.Reason.TheVariants as reason
use Rattle.split_counts.specs.declared.counts.TheConstants.{REASONS}

-- the place of a reason among all, in the order in which they are asked
abbrev pub reason_place : Reason → ℕ
reason_place reason.Animal = 0
reason_place reason.Coordinates = 1
reason_place reason.Zero = 2
reason_place reason.Sensor = 3
reason_place reason.Outlier = 4
reason_place reason.Class = 5
reason_place reason.NoDop = 6
reason_place reason.Dop = 7
reason_place reason.Type = 8
reason_place reason.Before = 9
reason_place reason.After = 10
reason_place reason.Grid = 11
reason_place reason.Speed = 12
reason_place reason.Every = 13

-- whether records of this animal are counted: it is one of so many, or none
abbrev pub is_one_of : ℕ → Option ℕ → Bool
is_one_of animals None = true
is_one_of animals (Some animal) = nat_lt animal animals

-- where the count of an animal and a reason stands: first the reasons of the first animal, and behind those of all animals
-- those of records that name none
abbrev pub slot_of : ℕ → Option ℕ → Reason → ℕ
slot_of animals None reason = animals * REASONS + reason_place reason
slot_of animals (Some animal) reason = animal * REASONS + reason_place reason

-- whether a record is in the count that stands there
abbrev pub is_in_slot : ℕ → ℕ → Fate → Bool
is_in_slot animals slot (InTrack animal entry) = false
is_in_slot animals slot (LeftOut animal reason) = is_one_of animals animal && (slot_of animals animal reason == slot)

-- the counts of so many animals, and of records that name none
abbrev pub left_counts : ℕ → List Fate → List ℕ
left_counts animals fates = map (λ slot. count_by (is_in_slot animals slot) fates) (range_with_len 0 ((animals + 1) * REASONS))

-- whether two records are of one animal, or both of none
abbrev pub is_same_animal : Option ℕ → Option ℕ → Bool
is_same_animal None None = true
is_same_animal None (Some other) = false
is_same_animal (Some animal) None = false
is_same_animal (Some animal) (Some other) = animal == other

-- whether a record of this animal, or of none, is left out for this reason
abbrev pub is_left : Option ℕ → Reason → Fate → Bool
is_left animal reason (InTrack other entry) = false
is_left animal reason (LeftOut other why) = is_same_animal animal other && (reason_place reason == reason_place why)

-- how many records are, of those whose counts these are; 0 for an animal that was not counted
abbrev pub IsCountOf : ℕ → List ℕ → Option ℕ → Reason → ℕ → Type 0
IsCountOf animals counts animal reason count = (fates : List Fate) → counts ≡ left_counts animals fates
    → count ≡ (if is_one_of animals animal then count_by (is_left animal reason) fates else 0)
