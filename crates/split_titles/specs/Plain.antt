-- How titles are compared.
use Rattle.std.specs.Prelude.{ℕ, ◌==◌, Bool, ◌||◌, if◌then◌else◌, List, [], ◌∷◌, map, reverse}
use Rattle.std.specs.Char.{to_ascii_lowercase}

-- whether a byte is a blank or a tab
abbrev pub is_blank : ℕ → Bool
is_blank byte = byte == 32 || byte == 9

-- a text without the blanks at its start
unfoldable pub behind_blanks : List ℕ → List ℕ
behind_blanks [] = []
behind_blanks (byte ∷ others) = if is_blank byte then behind_blanks others else byte ∷ others

-- a title without blanks beside it
abbrev pub trimmed : List ℕ → List ℕ
trimmed title = reverse (behind_blanks (reverse (behind_blanks title)))

-- a byte of a title as it is compared: hyphens for blanks, points, colons and underscores, and small letters of ASCII
abbrev pub plain_byte : ℕ → ℕ
plain_byte byte = if byte == 32 || byte == 46 || byte == 58 || byte == 95 then 45 else to_ascii_lowercase byte

-- a title as it is compared
abbrev pub plain : List ℕ → List ℕ
plain title = map plain_byte (trimmed title)
