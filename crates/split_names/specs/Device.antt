-- Names of devices of Windows, which name no file there.
use Rattle.std.specs.Prelude.{ℕ, ◌==◌, Bool, true, false, not, ◌&&◌, ◌||◌, List, [], ◌∷◌, take, drop, map, codes, Option, Some, None}
use Rattle.std.specs.Char.{is_ascii_digit, to_ascii_lowercase}
use Rattle.std.specs.List.{find, list_any, position}
use Rattle.std.specs.Str.{bytes_eq}

-- whether a word is this one, in capital or small letters of ASCII
abbrev pub is_word : List ℕ → List ℕ → Bool
is_word word other = bytes_eq (map to_ascii_lowercase word) (map to_ascii_lowercase other)

-- whether bytes are a digit, or `¹`, `²` or `³` in UTF-8
abbrev pub is_port_number : List ℕ → Bool
is_port_number (digit ∷ []) = is_ascii_digit digit
is_port_number (b ∷ c ∷ []) = b == 0xC2 && (c == 0xB9 || c == 0xB2 || c == 0xB3)
is_port_number _ = false

-- whether a word is `com` or `lpt` with such a number behind it
abbrev pub is_port : List ℕ → Bool
is_port word = (is_word (take 3 word) (codes "com") || is_word (take 3 word) (codes "lpt")) && is_port_number (drop 3 word)

-- whether a word is that of a device
abbrev pub is_device_word : List ℕ → Bool
is_device_word word = list_any (is_word word) (codes "con" ∷ codes "prn" ∷ codes "aux" ∷ codes "nul" ∷ codes "conin$" ∷ codes "conout$" ∷ []) || is_port word

-- where the first point or blank of a name stands
abbrev pub stop_in : List ℕ → Option ℕ
stop_in name = position (λ b. b == 46 || b == 32) name

-- the first byte that is no blank
abbrev pub next_sign : List ℕ → Option ℕ
next_sign bytes = find (λ b. not (b == 32)) bytes

-- whether there is no byte, or it is a point
abbrev pub is_point_or_end : Option ℕ → Bool
is_point_or_end None = true
is_point_or_end (Some sign) = sign == 46

-- whether blanks that stand here, or none, end the name or come before a point
abbrev pub ends_word : List ℕ → Bool
ends_word behind = is_point_or_end (next_sign behind)

-- whether a name is that of a device, where its first point or blank stands here
abbrev pub is_device_at : List ℕ → Option ℕ → Bool
is_device_at name None = is_device_word name
is_device_at name (Some stop) = is_device_word (take stop name) && ends_word (drop stop name)

-- whether a name is that of a device, alone or before a point, perhaps with blanks between
unfoldable pub is_device : List ℕ → Bool
is_device name = is_device_at name (stop_in name)
