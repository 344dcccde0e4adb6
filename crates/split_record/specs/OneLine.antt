-- A text in one line: its control characters and its separators of lines are escaped. What is no UTF-8 stays.
use Rattle.std.specs.Prelude.{ℕ, zero, suc, ◌-◌, ◌==◌, nat_le, nat_lt, Bool, ◌&&◌, ◌||◌, if◌then◌else◌, List, [], ◌∷◌, ◌++◌, codes, slice_index}
use Rattle.std.specs.Char.{is_ascii_control}
use Rattle.std.specs.List.{flat_map}
use Rattle.hex.specs.Hex.{encode_lower}

-- whether a text starts with a control character of two bytes, U+0080 to U+009F
abbrev pub starts_control : List ℕ → Bool
starts_control text = slice_index text 0 == 0xC2 && nat_le 0x80 (slice_index text 1) && nat_lt (slice_index text 1) 0xA0

-- whether a text starts with a separator of lines or of paragraphs, U+2028 or U+2029
abbrev pub starts_separator : List ℕ → Bool
starts_separator text =
    slice_index text 0 == 0xE2 && slice_index text 1 == 0x80 && (slice_index text 2 == 0xA8 || slice_index text 2 == 0xA9)

-- a code of one byte, in two digits behind what introduces it
abbrev pub escaped : List ℕ → ℕ → List ℕ
escaped mark code = mark ++ encode_lower (code ∷ [])

-- what is written for the start of a text: an escape for a control character or a separator, or else the first byte
abbrev pub sign_text : List ℕ → List ℕ
sign_text text =
    if starts_control text then escaped (codes "\\x") (slice_index text 1)
    else if starts_separator text then escaped (codes "\\u20") (slice_index text 2 - 0x80)
    else if is_ascii_control (slice_index text 0) then escaped (codes "\\x") (slice_index text 0)
    else slice_index text 0 ∷ []

-- how many bytes behind the first of a text are escaped with it
abbrev pub bytes_behind : List ℕ → ℕ
bytes_behind text = if starts_control text then 1 else if starts_separator text then 2 else 0

-- a text in one line, without so many bytes at its start
unfoldable pub one_line_behind : ℕ → List ℕ → List ℕ
one_line_behind behind [] = []
one_line_behind zero (byte ∷ others) = sign_text (byte ∷ others) ++ one_line_behind (bytes_behind (byte ∷ others)) others
one_line_behind (suc behind) (byte ∷ others) = one_line_behind behind others

-- a text in one line
abbrev pub one_line : List ℕ → List ℕ
one_line text = one_line_behind 0 text

-- a byte, or two backslashes for one
abbrev pub doubled_byte : ℕ → List ℕ
doubled_byte byte = if byte == 0x5C then codes "\\\\" else byte ∷ []

-- a text with each backslash twice
abbrev pub doubled : List ℕ → List ℕ
doubled text = flat_map doubled_byte text
