-- Texts of users in the strings of a style sheet, in which a character may stand as its code.
use Rattle.std.specs.Prelude.{ℕ, ◌/◌, ◌%◌, ◌==◌, Bool, ◌||◌, if◌then◌else◌, List, [], ◌∷◌, ◌++◌, codes}
use Rattle.std.specs.Char.{is_ascii_alphanumeric}
use Rattle.hex.specs.Hex.{encode_lower}

-- whether a byte is a letter or a digit of ASCII or a blank, or the backslash that begins a code
abbrev pub is_styled : ℕ → Bool
is_styled byte = is_ascii_alphanumeric byte || byte == 32 || byte == 92

-- a character as its code in six digits, and the blank that ends these
abbrev pub code_sign : ℕ → List ℕ
code_sign character = codes "\\" ++ encode_lower (character / 65536 % 256 ∷ character / 256 % 256 ∷ character % 256 ∷ []) ++ codes " "

-- a character: a letter or a digit of ASCII or a blank as itself, any other as its code
abbrev pub style_sign : ℕ → List ℕ
style_sign character = if is_ascii_alphanumeric character || character == 32 then character ∷ [] else code_sign character
