-- The value of an option, of which a record has escapes: `\\` for a backslash, `\x1b` for a control character, and `\u2028` for a
-- separator of lines. None is read where a backslash begins none of these.
use Rattle.std.specs.Prelude.{ℕ, zero, suc, Bool, ◌==◌, ◌+◌, ◌-◌, ◌*◌, ◌&&◌, ◌||◌, nat_le, nat_lt, if◌then◌else◌, List, [], ◌∷◌, ◌++◌, slice_index, Option, Some, None, option_map}
use Rattle.std.specs.Char.{is_ascii_digit}
use Rattle.page_report.specs.Fields.{◌>>=◌}
use Rattle.page_record.specs.declared.unescaped.Sign.{Sign}
use Rattle.page_record.specs.declared.unescaped.Sign.TheVariants.{Byte, Backslash, Control, LongControl, Separator}

-- the value of a digit from 0 to f
abbrev pub hex_value : ℕ → Option ℕ
hex_value digit = if is_ascii_digit digit then Some (digit - 48) else (if nat_le 97 digit && nat_le digit 102 then Some (digit - 87) else None)

-- the code of two digits behind two bytes
abbrev pub code_in : List ℕ → Option ℕ
code_in text = do
  high ← hex_value (slice_index text 2)
  low ← hex_value (slice_index text 3)
  Some (high * 16 + low)

-- what an escape of a code stands for: a control character of one byte, or of two
abbrev pub code_sign : ℕ → Option Sign
code_sign code = if nat_lt code 128 then Some (Control code) else (if nat_lt code 160 then Some (LongControl code) else None)

-- whether a text starts with the escape of a separator
abbrev pub is_separator : List ℕ → Bool
is_separator text =
    slice_index text 1 == 117 && slice_index text 2 == 50 && slice_index text 3 == 48 && slice_index text 4 == 50
    && (slice_index text 5 == 56 || slice_index text 5 == 57)

-- the last byte of a separator, by the last digit of its escape
abbrev pub separator_end : ℕ → ℕ
separator_end digit = if digit == 56 then 0xA8 else 0xA9

-- what stands at the start of a text that starts with a backslash
unfoldable pub escape_in : List ℕ → Option Sign
escape_in text =
    if slice_index text 1 == 0x5C then Some Backslash
    else (if is_separator text then Some (Separator (separator_end (slice_index text 5)))
    else (if slice_index text 1 == 120 then code_in text >>= code_sign else None))

-- what stands at the start of a text
unfoldable pub sign_in : List ℕ → Option Sign
sign_in text = if slice_index text 0 == 0x5C then escape_in text else Some (Byte (slice_index text 0))

-- what a sign stands for
abbrev pub sign_text : Sign → List ℕ
sign_text (Byte byte) = byte ∷ []
sign_text Backslash = 0x5C ∷ []
sign_text (Control code) = code ∷ []
sign_text (LongControl code) = 0xC2 ∷ code ∷ []
sign_text (Separator last) = 0xE2 ∷ 0x80 ∷ last ∷ []

-- how many bytes behind its first stand for it too
abbrev pub sign_behind : Sign → ℕ
sign_behind (Byte byte) = 0
sign_behind Backslash = 1
sign_behind (Control code) = 3
sign_behind (LongControl code) = 3
sign_behind (Separator last) = 5

-- a sign before what is read of a text
abbrev pub behind_sign : Sign → Option (List ℕ) → Option (List ℕ)
behind_sign sign more = option_map (λ own. sign_text sign ++ own) more

-- a text with what its escapes stand for, without so many bytes at its start
unfoldable pub unescaped_behind : ℕ → List ℕ → Option (List ℕ)
unescaped_behind behind [] = Some []
unescaped_behind zero (byte ∷ others) = sign_in (byte ∷ others) >>= (λ sign. behind_sign sign (unescaped_behind (sign_behind sign) others))
unescaped_behind (suc behind) (byte ∷ others) = unescaped_behind behind others

-- a text with what its escapes stand for
abbrev pub unescaped : List ℕ → Option (List ℕ)
unescaped text = unescaped_behind 0 text
