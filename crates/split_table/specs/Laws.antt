-- Plain texts, of which nobody needs the machine of records to see what the records are.
use Rattle.std.specs.Prelude.{◌≡◌, ◌≢◌, ℕ, Bool, true, false, ◌==◌, ◌&&◌, not, List, [], ◌∷◌, map, IsTrue}
use Rattle.std.specs.List.{filter, list_all, slice_split}
use Rattle.csv.specs.Reading.{records}
use Rattle.split_table.specs.Quotes.{config_by}

-- what stands between bytes of one kind in a text
abbrev pub parts_between : ℕ → List ℕ → List (List ℕ)
parts_between sign text = slice_split (λ b. b == sign) text

-- whether a line has anything
abbrev pub is_filled : List ℕ → Bool
is_filled [] = false
is_filled (b ∷ line) = true

-- the lines of a text that are not blank
abbrev pub filled_lines : List ℕ → List (List ℕ)
filled_lines text = filter is_filled (parts_between 10 text)

-- whether a text has no quote and no CR
abbrev pub is_plain_text : List ℕ → Bool
is_plain_text text = list_all (λ b. not (b == 34) && not (b == 13)) text

-- the records of a plain text are its lines that are not blank, and their fields what stands between separators, which are no
-- quote, CR or LF themselves
abbrev pub PlainRecordsAreLines : Type 0
PlainRecordsAreLines = (separator : ℕ) (text : List ℕ) → separator ≢ 10 → separator ≢ 13 → separator ≢ 34 → IsTrue (is_plain_text text)
    → records (config_by separator) text ≡ map (parts_between separator) (filled_lines text)
