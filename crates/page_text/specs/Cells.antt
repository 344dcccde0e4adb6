-- A cell of a table, and how it is read.
use Rattle.std.specs.Prelude.{ℕ, ◌==◌, Bool, true, false, if◌then◌else◌, List, [], ◌∷◌, ◌++◌, codes, slice_index}
use Rattle.std.specs.List.{flat_map, list_any}

-- whether a spreadsheet may compute a text that starts with this byte, or hides it
abbrev pub is_formula : ℕ → Bool
is_formula byte = list_any (λ own. own == byte) (codes "=+-@\t\r'")

-- a text that a spreadsheet shows and does not compute: behind an apostrophe, where it has to be
abbrev pub apostrophe : List ℕ → List ℕ
apostrophe text = if is_formula (slice_index text 0) then codes "'" else []

abbrev pub shown_cell : List ℕ → List ℕ
shown_cell text = apostrophe text ++ text

-- whether a byte parts cells or records, or is a quote
abbrev pub is_special : ℕ → Bool
is_special byte = list_any (λ own. own == byte) (codes ",\"\n\r")

-- a text in quotes, in which each quote is doubled
abbrev pub quoted_byte : ℕ → List ℕ
quoted_byte byte = if byte == 34 then 34 ∷ 34 ∷ [] else byte ∷ []

abbrev pub quoted : List ℕ → List ℕ
quoted text = 34 ∷ (flat_map quoted_byte text ++ 34 ∷ [])

-- a text in quotes where it has to be
abbrev pub in_quotes : List ℕ → List ℕ
in_quotes text = if list_any is_special text then quoted text else text

-- the cell of a text
abbrev pub cell : List ℕ → List ℕ
cell text = in_quotes (shown_cell text)

-- one more byte before what is read of a cell, beside what stands behind the cell
abbrev pub with_byte : ℕ → List ℕ × List ℕ → List ℕ × List ℕ
with_byte byte (text, rest) = (byte ∷ text, rest)

-- what is read behind the first quote, and behind another quote that may end the cell
unfoldable pub read_quoted : Bool → List ℕ → List ℕ × List ℕ
read_quoted ends [] = ([], [])
read_quoted false (byte ∷ others) = if byte == 34 then read_quoted true others else with_byte byte (read_quoted false others)
read_quoted true (byte ∷ others) = if byte == 34 then with_byte byte (read_quoted false others) else ([], byte ∷ others)

-- what is read before the first byte that ends a cell
unfoldable pub read_plain : List ℕ → List ℕ × List ℕ
read_plain [] = ([], [])
read_plain (byte ∷ others) = if is_special byte then ([], byte ∷ others) else with_byte byte (read_plain others)

-- what the first cell of a record says, and what stands behind the cell
abbrev pub read_cell : List ℕ → List ℕ × List ℕ
read_cell [] = ([], [])
read_cell (byte ∷ others) = if byte == 34 then read_quoted false others else read_plain (byte ∷ others)

-- the text that a cell was made of: without the apostrophe before it
abbrev pub text_of_cell : List ℕ → List ℕ
text_of_cell [] = []
text_of_cell (byte ∷ others) = if byte == 39 then others else byte ∷ others
