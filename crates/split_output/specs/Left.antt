-- What a split leaves out, as its record says it.
use Rattle.std.specs.Prelude.{ℕ, List, [], ◌∷◌, ◌++◌, Option, Some, None, filter, map, nat_lt}
use Rattle.std.specs.Ordering.{nat_cmp, ordering_then}
use Rattle.std.specs.declared.cmp.Ordering.{Ordering}
use Rattle.std.specs.List.{count_by, enumerate_from, flat_map}
use Rattle.std.specs.List.Sorted.{IsPermutation, IsSorted}
use Rattle.std.specs.Cmp.Lexicographic.{slice_cmp}
use Rattle.split_counts.specs.Counts.{is_left}
use Rattle.split_record.specs.declared.record.Left.{Left}
use Rattle.split_tracks.specs.declared.fate.Fate.{Fate}
use Rattle.split_tracks.specs.declared.fate.Reason.{Reason}
use Rattle.split_tracks.specs.declared.fate.Reason.TheVariants as reason

-- how many records are left out for a reason, of the animal whose file has this name
pub record LeftOut : Type 0 where
  pub name : List ℕ
  pub count : ℕ
  pub reason : Reason

-- what is seen of a line that says so
abbrev pub left_out : Left → LeftOut
left_out left = record { name = left.name.now; count = left.count; reason = left.reason }

-- all reasons, in the order in which they are asked
unfoldable pub reasons : List Reason
reasons =
    reason.Animal ∷ reason.Coordinates ∷ reason.Zero ∷ reason.Sensor ∷ reason.Outlier ∷ reason.Class ∷ reason.NoDop ∷ reason.Dop ∷ reason.Type
    ∷ reason.Before ∷ reason.After ∷ reason.Grid ∷ reason.Speed ∷ reason.Every ∷ []

-- how many records with these fates are left out for a reason, of an animal or of none
abbrev pub left_for : List Fate → List ℕ → Option ℕ → Reason → LeftOut
left_for fates name animal why = record { name = name; count = count_by (is_left animal why) fates; reason = why }

-- the same for each reason for which some are
unfoldable pub left_of : List Fate → List ℕ → Option ℕ → List LeftOut
left_of fates name animal = filter (λ left. nat_lt 0 left.count) (map (left_for fates name animal) reasons)

-- the order of animals by the bytes of the names of their files, and of the same names by numbers
abbrev pub name_cmp : ℕ × List ℕ → ℕ × List ℕ → Ordering
name_cmp one other = ordering_then (slice_cmp nat_cmp one.1 other.1) (nat_cmp one.0 other.0)

-- the animals whose files have these names, in that order
pub record AreByName (names : List (List ℕ)) (ranked : List (ℕ × List ℕ)) : Type 0 where
  pub are_all : IsPermutation (enumerate_from 0 names) ranked
  pub are_sorted : IsSorted name_cmp ranked

-- what is left out: first of records that name no animal, and then by the names of files
abbrev pub all_left : List Fate → List (ℕ × List ℕ) → List LeftOut
all_left fates ranked = left_of fates [] None ++ flat_map (λ (animal, name). left_of fates name (Some animal)) ranked
