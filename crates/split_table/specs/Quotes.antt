-- What is wrong with the quotes of a table.
use Rattle.std.specs.Prelude.{◌≡◌, ℕ, ◌+◌, ◌&&◌, Bool, true, false, ◌==◌, ◌||◌, not, if◌then◌else◌, List, [], ◌∷◌, Option, Some, None}
use Rattle.csv.specs.Machine.{is_end, step}
use Rattle.csv.specs.Reading.{default_config}
use Rattle.csv.specs.declared.parser.Config.{Config}
use Rattle.csv.specs.declared.parser.State.{State}
use Rattle.csv.specs.declared.parser.State.TheVariants as st
use Rattle.split_table.specs.Separator.{ends_line}
use Rattle.split_table.specs.declared.quotes.Place.{Place}
use Rattle.split_table.specs.declared.quotes.Place.TheVariants.{RecordStart, FieldStart, Plain, Quoted, QuoteEnd}
use Rattle.split_table.specs.declared.table.TableFault.{TableFault}
use Rattle.split_table.specs.declared.table.TableFault.TheVariants.{StrayQuote, OpenQuote}

-- how a text is read whose fields stand between such separators
abbrev pub config_by : ℕ → Config
config_by separator = record default_config { delimiter = separator }

-- a quote in a field without quotes, or, behind the last quote of a field, what is no separator and ends no line
abbrev pub is_stray : ℕ → State → ℕ → Bool
is_stray separator st.StartRecord b = false
is_stray separator st.StartField b = false
is_stray separator st.InField b = b == 34
is_stray separator st.InQuoted b = false
is_stray separator st.AfterQuote b = not (b == 34 || b == separator || ends_line b)
is_stray separator st.InEscape b = false
is_stray separator st.InComment b = false
is_stray separator st.AfterCr b = false

-- whether a field has a quote that did not end
abbrev pub is_open : State → Bool
is_open st.StartRecord = false
is_open st.StartField = false
is_open st.InField = false
is_open st.InQuoted = true
is_open st.AfterQuote = false
is_open st.InEscape = false
is_open st.InComment = false
is_open st.AfterCr = false

-- how many records ended, with one that ends here or not
abbrev pub ended_with : Bool → ℕ → ℕ
ended_with false count = count
ended_with true count = count + 1

-- the first fault of quotes in a text from this state on, before which so many records ended
unfoldable pub quote_fault_from : ℕ → State → ℕ → List ℕ → Option TableFault
quote_fault_from separator s count [] = if is_open s then Some (OpenQuote count) else None
quote_fault_from separator s count (b ∷ text) =
    if is_stray separator s b then Some (StrayQuote count)
    else quote_fault_from separator (step (config_by separator) s b).0 (ended_with (is_end (step (config_by separator) s b).1) count) text

-- the machine's state where the next byte stands here
abbrev pub state_of : Place → State
state_of RecordStart = st.StartRecord
state_of FieldStart = st.StartField
state_of Plain = st.InField
state_of Quoted = st.InQuoted
state_of QuoteEnd = st.AfterQuote

-- a state, where an LF behind a CR is one more blank line
abbrev pub settled : State → State
settled st.StartRecord = st.StartRecord
settled st.StartField = st.StartField
settled st.InField = st.InField
settled st.InQuoted = st.InQuoted
settled st.AfterQuote = st.AfterQuote
settled st.InEscape = st.InEscape
settled st.InComment = st.InComment
settled st.AfterCr = st.StartRecord

-- whether the next byte is the first of a record
abbrev pub is_start : Place → Bool
is_start RecordStart = true
is_start FieldStart = false
is_start Plain = false
is_start Quoted = false
is_start QuoteEnd = false

-- whether a record ends where the machine goes from one place to another
abbrev pub ends_record : Place → Place → Bool
ends_record place next = is_start next && not (is_start place)

-- a byte that is not stray moves the machine to this place
pub record Moves (separator : ℕ) (place : Place) (b : ℕ) (next : Place) : Type 0 where
  pub stands : is_stray separator (state_of place) b ≡ false
  pub state : settled (step (config_by separator) (state_of place) b).0 ≡ state_of next
  pub ends : is_end (step (config_by separator) (state_of place) b).1 ≡ ends_record place next

-- the first fault of the quotes of a text
abbrev pub quote_fault_of : ℕ → List ℕ → Option TableFault
quote_fault_of separator text = quote_fault_from separator st.StartRecord 0 text
