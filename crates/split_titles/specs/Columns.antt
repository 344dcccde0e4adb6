-- The columns that are read.
use Rattle.std.specs.Prelude.{ℕ, ◌<◌, ◌==◌, ◌≡◌, Bool, false, ◌||◌, Option, IsSome, is_some, Some, None, List, All, ⊤}
use Rattle.std.specs.List.{list_any}
use Rattle.split_titles.specs.declared.columns.Columns.{Columns}
use Rattle.split_titles.specs.declared.columns.Marks.{Marks}
use Rattle.split_titles.specs.declared.columns.Pair.{Pair}

-- a place that is there is one of so many
abbrev pub IsWithin : ℕ → Option ℕ → Type 0
IsWithin width None = ⊤
IsWithin width (Some at) = at < width

-- both places of a pair are of so many
abbrev pub IsPairWithin : ℕ → Pair → Type 0
IsPairWithin width pair = (pair.first < width) × (pair.second < width)

-- so are those of a pair that is there
abbrev pub IfPairWithin : ℕ → Option Pair → Type 0
IfPairWithin width None = ⊤
IfPairWithin width (Some pair) = IsPairWithin width pair

-- the places of all marks that are there are of so many
pub record AreMarksWithin (width : ℕ) (marks : Marks) : Type 0 where
  pub usage : IsWithin width marks.usage
  pub visible : IsWithin width marks.visible
  pub manual_outlier : IsWithin width marks.manual_outlier
  pub algorithm_outlier : IsWithin width marks.algorithm_outlier
  pub import_outlier : IsWithin width marks.import_outlier
  pub manual_valid : IsWithin width marks.manual_valid

-- where a mark says which fixes are used, there is no other
abbrev pub HasUsageAlone : Marks → Type 0
HasUsageAlone marks =
    IsSome marks.usage
    → marks ≡ record {
      usage = marks.usage;
      visible = None;
      manual_outlier = None;
      algorithm_outlier = None;
      import_outlier = None;
      manual_valid = None;
    }

-- whether there are coordinates
abbrev pub has_places : {A : Type 0} → Columns A → Bool
has_places columns = is_some columns.metres || is_some columns.degrees

-- all places that are read are of so many
pub record AreWithin {A : Type 0} (width : ℕ) (columns : Columns A) : Type 0 where
  pub animal : All (λ at. at < width) columns.animal.items
  pub time : All (λ at. at < width) columns.time.items
  pub metres : IfPairWithin width columns.metres
  pub degrees : IfPairWithin width columns.degrees
  pub zone : IsWithin width columns.zone
  pub marks : AreMarksWithin width columns.marks
  pub sensor : IsWithin width columns.sensor
  pub argos : IsWithin width columns.argos
  pub dop : IsWithin width columns.dop
  pub fix_type : IsWithin width columns.fix_type
  pub other_animals : All (λ at. at < width) columns.other_animals.items

-- whether this is the place
abbrev pub is_at : ℕ → Option ℕ → Bool
is_at at None = false
is_at at (Some own) = own == at

-- whether this is a place of the pair
abbrev pub is_of_pair : ℕ → Option Pair → Bool
is_of_pair at None = false
is_of_pair at (Some pair) = pair.first == at || pair.second == at

-- whether a mark stands in the column at this place
abbrev pub is_mark : ℕ → Marks → Bool
is_mark at marks =
    is_at at marks.usage || is_at at marks.visible || is_at at marks.manual_outlier
    || is_at at marks.algorithm_outlier || is_at at marks.import_outlier || is_at at marks.manual_valid

-- whether the column at this place is one of these
abbrev pub is_one_of : ℕ → List ℕ → Bool
is_one_of at places = list_any (λ own. own == at) places

-- whether the column at this place has coordinates or their zone
unfoldable pub is_of_places : {A : Type 0} → Columns A → ℕ → Bool
is_of_places columns at = is_of_pair at columns.metres || is_of_pair at columns.degrees || is_at at columns.zone

-- whether the column at this place says which fixes are taken
unfoldable pub is_of_choice : {A : Type 0} → Columns A → ℕ → Bool
is_of_choice columns at =
    is_mark at columns.marks || is_at at columns.sensor || is_at at columns.argos || is_at at columns.dop
    || is_at at columns.fix_type

-- whether the column at this place is read
unfoldable pub is_read : {A : Type 0} → Columns A → ℕ → Bool
is_read columns at =
    is_one_of at columns.animal.items || is_one_of at columns.time.items || is_one_of at columns.other_animals.items
    || is_of_places columns at || is_of_choice columns at
