-- What is one line, and that no two texts are shown alike.
use Rattle.std.specs.Prelude.{◌≡◌, ℕ, Bool, true, List, ◌++◌, IsUtf8}
use Rattle.std.specs.List.{list_all}
use Rattle.std.specs.Fmt.{decimal}
use Rattle.range_texts.specs.Seen.{IsOneLine, is_printable, shown_text, shown_name}

-- two lines, one after the other
abbrev pub JoinedLinesAreOneLine : Type 0
JoinedLinesAreOneLine = (a b : List ℕ) → IsOneLine a → IsOneLine b → IsOneLine (a ++ b)

-- what ASCII prints
abbrev pub PrintableTextsAreOneLine : Type 0
PrintableTextsAreOneLine = (text : List ℕ) → list_all is_printable text ≡ true → IsOneLine text

abbrev pub NumbersAreOneLine : Type 0
NumbersAreOneLine = (n : ℕ) → IsOneLine (decimal n)

-- each text as it is shown, whatever its bytes
abbrev pub ShownTextsAreOneLine : Type 0
ShownTextsAreOneLine = (doubles : Bool) (text : List ℕ) → IsOneLine (shown_text doubles text)

abbrev pub ShownNamesAreOneLine : Type 0
ShownNamesAreOneLine = (name : List ℕ) → IsOneLine (shown_name name)

-- two texts that are shown alike, with a backslash doubled, are the same text
abbrev pub ShownTextsDiffer : Type 0
ShownTextsDiffer = (a b : List ℕ) → IsUtf8 a → IsUtf8 b → shown_text true a ≡ shown_text true b → a ≡ b
