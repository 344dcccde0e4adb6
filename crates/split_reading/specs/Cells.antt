-- What one cell of a record says.
use Rattle.std.specs.Prelude.{ℕ, ℤ, Bool, true, false, ◌==◌, ◌&&◌, ◌||◌, not, if◌then◌else◌, List, [], length, codes, Option, Some, None, is_some, Result, Ok, Err}
use Rattle.std.specs.Borrow.{Bor}
use Rattle.std.specs.List.{list_all, list_any}
use Rattle.std.specs.Option.{unwrap_or}
use Rattle.std.specs.Str.{bytes_eq}
use Rattle.csv.specs.Records.{field_at}
use Rattle.split_numbers.specs.Decimal as decimal
use Rattle.split_numbers.specs.Same.{is_same_number}
use Rattle.split_reading.specs.declared.rules.Rules.{Rules}
use Rattle.split_reading.specs.declared.fault.CellFault.{CellFault}
use Rattle.split_reading.specs.declared.fault.CellFault.TheVariants.{NotNumber, NotTruth}

-- a record, by the bytes of its fields
abbrev pub Record : Type 0
Record = List (List ℕ)

-- what is found, and then what is found by it; a fault ends that
infixl 10 ◌>>=◌
abbrev pub ◌>>=◌ : {A B : Type 0} → Result A CellFault → (A → Result B CellFault) → Result B CellFault
(Ok x) >>= f = f x
(Err e) >>= f = Err e

-- the field of a record at a place; one that is not there is empty
abbrev pub field : Record → ℕ → List ℕ
field fields place = unwrap_or (field_at fields place) []

-- whether a field is a word for what is missing, or the same number
abbrev pub is_word : Bool → List ℕ → List ℕ → Bool
is_word commas word text = bytes_eq word text || is_same_number word text commas

-- whether a field is one of these words
abbrev pub is_one_of : Bool → List (Bor (List ℕ)) → List ℕ → Bool
is_one_of commas words text = list_any (λ word. is_word commas word.now text) words

-- the text of a field, which is empty where it is a word for what is missing
abbrev pub known : Rules → List ℕ → List ℕ
known rules text = if is_one_of rules.has_commas rules.missing.now text then [] else text

-- the field of a record in a column
abbrev pub cell : Rules → Record → ℕ → List ℕ
cell rules fields column = known rules (field fields column)

-- whether a field is missing
abbrev pub is_missing : List ℕ → Bool
is_missing text = length text == 0 || bytes_eq text (codes "NA")

-- the units of a number that was found, or the fault that there is none
abbrev pub found_number : ℕ → Option ℤ → Result (Option ℤ) CellFault
found_number column (Some units) = Ok (Some units)
found_number column None = Err (NotNumber column)

-- the units of a coordinate in metres, or none where it is missing
abbrev pub number_in : Rules → ℕ → List ℕ → Result (Option ℤ) CellFault
number_in rules column text = if is_missing text then Ok None else found_number column (decimal.units_in rules.unit rules.has_commas text)

-- the trillionths of a number, or none where it is missing
abbrev pub trillionths_in : Rules → ℕ → List ℕ → Result (Option ℤ) CellFault
trillionths_in rules column text = if is_missing text then Ok None else found_number column (decimal.trillionths_in rules.has_commas text)

-- a word, which is empty where it is missing
abbrev pub known_word : List ℕ → List ℕ
known_word text = if is_missing text then [] else text

-- the word of a record in a column
abbrev pub word_in : Rules → Option ℕ → Record → List ℕ
word_in rules None fields = []
word_in rules (Some column) fields = known_word (cell rules fields column)

-- whether a number is 0, of whose text digits, a minus and a point, or a comma in its place, are all
abbrev pub is_zero : List ℕ → Bool
is_zero text = not (is_missing text) && list_all (λ b. b == 48 || b == 45 || b == 46 || b == 44) text

-- the truth that a text writes
abbrev pub truth_of : List ℕ → Option Bool
truth_of text =
    if bytes_eq text (codes "true") || bytes_eq text (codes "TRUE") || bytes_eq text (codes "True") || bytes_eq text (codes "1") || bytes_eq text (codes "1.0") then Some true
    else if bytes_eq text (codes "false") || bytes_eq text (codes "FALSE") || bytes_eq text (codes "False") || bytes_eq text (codes "0") || bytes_eq text (codes "0.0") then Some false
    else None

-- a truth that was found, or the fault that there is none
abbrev pub found_truth : ℕ → Option Bool → Result (Option Bool) CellFault
found_truth column (Some truth) = Ok (Some truth)
found_truth column None = Err (NotTruth column)

-- the text of a mark: a truth is one even if it is a word for what is missing
abbrev pub mark_text : Rules → ℕ → Record → List ℕ
mark_text rules column fields = if is_some (truth_of (field fields column)) then field fields column else cell rules fields column

-- the truth of a mark of a record, or none where it is missing
abbrev pub truth_in : Rules → ℕ → Record → Result (Option Bool) CellFault
truth_in rules column fields =
    if is_missing (mark_text rules column fields) then Ok None else found_truth column (truth_of (mark_text rules column fields))
