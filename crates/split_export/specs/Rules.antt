-- How records are read, by the columns of a table and by what is asked.
use Rattle.std.specs.Prelude.{◌≡◌, ℕ, Bool, true, List, []}
use Rattle.std.specs.Borrow.{Bor}
use Rattle.split_reading.specs.declared.rules.Rules.{Rules}
use Rattle.split_titles.specs.declared.columns.Columns.{Columns}
use Rattle.split_export.specs.declared.asked.Asked.{Asked}
use Rattle.split_export.specs.declared.rules.NotTaken.{NotTaken}
use Rattle.split_export.specs.declared.rules.NotTaken.TheVariants.{NoTime}

-- the rules by the columns of a table of so many titles, of which these are those of the animal and of the time; commas may stand
-- before decimals or not
abbrev pub rules_with : {A : Type 0} → Columns A → Bor (List ℕ) → Bor (List ℕ) → ℕ → Bool → Asked → Rules
rules_with columns animal time width commas asked = record {
  width = width;
  missing = asked.missing;
  has_commas = commas;
  animal = animal;
  name = asked.name;
  time = time;
  is_second = columns.is_second;
  forms = asked.forms;
  clock = asked.clock;
  metres = columns.metres;
  degrees = columns.degrees;
  zone = columns.zone;
  marks = columns.marks;
  sensor = columns.sensor;
  class = columns.argos;
  dop = columns.dop;
  fix_type = columns.fix_type;
  filters = asked.filters;
  unit = asked.unit;
  skips_unnamed = asked.skips_unnamed;
}

-- rules are those of columns and of what is asked
pub record AreRules {A : Type 0} (columns : Columns A) (width : ℕ) (commas : Bool) (asked : Asked) (rules : Rules) : Type 0 where
  pub animal : Bor (List ℕ)
  pub of_animal : animal.now ≡ columns.animal.items
  pub time : Bor (List ℕ)
  pub of_time : time.now ≡ columns.time.items
  pub are : rules ≡ rules_with columns animal time width commas asked

-- why there are no rules for columns: there has to be one of the time, and there is none
abbrev pub HasNoRules : {A : Type 0} → Columns A → Asked → NotTaken → Type 0
HasNoRules columns asked NoTime = (asked.needs_time ≡ true) × (columns.time.items ≡ [])
