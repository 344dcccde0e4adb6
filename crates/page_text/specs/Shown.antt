-- Texts of users as a page shows them: no markup, and characters that are not seen or turn the direction of writing written out.
use Rattle.std.specs.Prelude.{ℕ, zero, suc, ◌+◌, ◌-◌, ◌*◌, ◌/◌, ◌%◌, ◌==◌, nat_le, nat_lt, Bool, ◌&&◌, ◌||◌, if◌then◌else◌, List, [], ◌∷◌, ◌++◌, codes, slice_index, Option, Some, None}
use Rattle.std.specs.Char.{is_ascii_control}
use Rattle.std.specs.List.{flat_map}
use Rattle.hex.specs.Hex.{encode_lower}

-- a byte as text in HTML, in which it is no markup
abbrev pub entity : ℕ → List ℕ
entity byte =
    if byte == 38 then codes "&amp;" else if byte == 60 then codes "&lt;" else if byte == 62 then codes "&gt;"
    else if byte == 34 then codes "&quot;" else if byte == 39 then codes "&#x27;" else byte ∷ []

-- a text as the value of an attribute
abbrev pub attribute : List ℕ → List ℕ
attribute text = flat_map entity text

-- whether a byte continues a character of several bytes
abbrev pub continues : ℕ → Bool
continues byte = nat_le 0x80 byte && nat_lt byte 0xC0

-- whether a text starts with a control character of two bytes, U+0080 to U+009F
abbrev pub starts_control : List ℕ → Bool
starts_control text = slice_index text 0 == 0xC2 && nat_le 0x80 (slice_index text 1) && nat_lt (slice_index text 1) 0xA0

-- whether a text starts with a character of three bytes, and the code of that
abbrev pub starts_wide : List ℕ → Bool
starts_wide text =
    nat_le 0xE0 (slice_index text 0) && nat_lt (slice_index text 0) 0xF0 && continues (slice_index text 1) && continues (slice_index text 2)

abbrev pub wide_code : List ℕ → ℕ
wide_code text = (slice_index text 0 - 0xE0) * 4096 + (slice_index text 1 - 0x80) * 64 + (slice_index text 2 - 0x80)

-- whether a code is that of a separator of lines, or of a character that is not seen or turns the direction of writing
abbrev pub is_hidden : ℕ → Bool
is_hidden code =
    code == 0x200B || code == 0x200E || code == 0x200F || (nat_le 0x2028 code && nat_le code 0x202E)
    || (nat_le 0x2060 code && nat_le code 0x2069) || code == 0xFEFF

-- the code of such a character, with which a text starts
abbrev pub hidden_code : List ℕ → Option ℕ
hidden_code text = if starts_wide text && is_hidden (wide_code text) then Some (wide_code text) else None

-- a code written out in two digits, as \x1b, and in four, as \u202e
abbrev pub short_escape : ℕ → List ℕ
short_escape code = codes "\\x" ++ encode_lower (code ∷ [])

abbrev pub long_escape : ℕ → List ℕ
long_escape code = codes "\\u" ++ encode_lower (code / 256 ∷ code % 256 ∷ [])

-- what is shown for the start of a text, which may be such a character
abbrev pub sign_beside : List ℕ → Option ℕ → List ℕ
sign_beside text (Some code) = long_escape code
sign_beside text None =
    if starts_control text then short_escape (slice_index text 1)
    else if is_ascii_control (slice_index text 0) then short_escape (slice_index text 0)
    else entity (slice_index text 0)

abbrev pub sign_text : List ℕ → List ℕ
sign_text text = sign_beside text (hidden_code text)

-- how many bytes behind the first of a text are shown with it
abbrev pub behind_beside : List ℕ → Option ℕ → ℕ
behind_beside text (Some code) = 2
behind_beside text None = if starts_control text then 1 else 0

abbrev pub bytes_behind : List ℕ → ℕ
bytes_behind text = behind_beside text (hidden_code text)

-- a text as it is shown, without so many bytes at its start
unfoldable pub escaped_behind : ℕ → List ℕ → List ℕ
escaped_behind behind [] = []
escaped_behind zero (byte ∷ others) = sign_text (byte ∷ others) ++ escaped_behind (bytes_behind (byte ∷ others)) others
escaped_behind (suc behind) (byte ∷ others) = escaped_behind behind others

-- a text as it is shown. What is no UTF-8 stays
abbrev pub escaped : List ℕ → List ℕ
escaped text = escaped_behind 0 text

-- a name, whose direction of writing does not reach what stands beside it
abbrev pub named : List ℕ → List ℕ
named name = codes "<bdi>" ++ escaped name ++ codes "</bdi>"
