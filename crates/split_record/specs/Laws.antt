-- No text that stands in a record forges a line of it.
use Rattle.std.specs.Prelude.{◌≡◌, ℕ, ◌==◌, Bool, true, not, ◌&&◌, ◌||◌, if◌then◌else◌, List, [], ◌∷◌, map, All, IsTrue}
use Rattle.std.specs.Char.{is_ascii_control}
use Rattle.std.specs.List.{list_all}
use Rattle.split_record.specs.declared.record.Record.{Record}
use Rattle.split_record.specs.Lines.{line_text, lines_of, record_text}
use Rattle.split_record.specs.OneLine.{starts_control, starts_separator}

-- no line has a control character of ASCII
abbrev pub LinesHaveNoControlCharacters : Type 0
LinesHaveNoControlCharacters =
    («record» : Record) → All (λ line. IsTrue (list_all (λ byte. not (is_ascii_control byte)) (line_text line))) (lines_of «record»)

-- whether at no place of a text a control character of two bytes or a separator of lines starts
abbrev pub has_no_separator : List ℕ → Bool
has_no_separator [] = true
has_no_separator (byte ∷ others) = not (starts_control (byte ∷ others) || starts_separator (byte ∷ others)) && has_no_separator others

-- no line has such a one
abbrev pub LinesHaveNoSeparators : Type 0
LinesHaveNoSeparators = («record» : Record) → All (λ line. IsTrue (has_no_separator (line_text line))) (lines_of «record»)

-- lines with a byte before the first
abbrev pub with_byte : ℕ → List (List ℕ) → List (List ℕ)
with_byte byte [] = (byte ∷ []) ∷ []
with_byte byte (line ∷ others) = (byte ∷ line) ∷ others

-- the lines of a text: what stands before each line feed, and behind the last if that is not empty
unfoldable pub lines_in : List ℕ → List (List ℕ)
lines_in [] = []
lines_in (byte ∷ others) = if byte == 10 then [] ∷ lines_in others else with_byte byte (lines_in others)

-- the lines of a record are those that were given
abbrev pub EachLineIsOneThatWasGiven : Type 0
EachLineIsOneThatWasGiven = («record» : Record) → lines_in (record_text «record») ≡ map line_text (lines_of «record»)
