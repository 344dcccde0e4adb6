-- What stands beside the quotes of a field.
use Rattle.std.specs.Prelude.{◌≡◌, ◌+◌, ◌<◌, ℕ, false, List, length, slice_index}
use Rattle.csv.specs.declared.parser.State.TheVariants as st
use Rattle.split_table.specs.Quotes.{is_stray}

-- a quote at this place may begin a field: it is the first byte, or the byte before it may stand beside a quote
abbrev pub MayBegin : ℕ → List ℕ → ℕ → Type 0
MayBegin separator text place = (k : ℕ) → k + 1 ≡ place → is_stray separator st.AfterQuote (slice_index text k) ≡ false

-- a field's last quote may stand before this place: the text ends there, or the byte there may stand beside a quote
abbrev pub MayEnd : ℕ → List ℕ → ℕ → Type 0
MayEnd separator text place = place < length text → is_stray separator st.AfterQuote (slice_index text place) ≡ false
