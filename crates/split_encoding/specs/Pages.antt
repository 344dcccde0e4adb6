-- The characters of code pages.
use Rattle.std.specs.Prelude.{◌≡◌, ◌≢◌, ◌-◌, ℕ, List, Option, MatchOption, nat_lt, slice_index_or, if◌then◌else◌}

-- what stands in a code page for a byte that has no character
abbrev pub none : ℕ
none = 0xFFFD

-- the character of a byte: below 128 that of ASCII, else what stands in a code page
abbrev pub character_in : List ℕ → ℕ → ℕ
character_in page byte = if nat_lt byte 128 then byte else slice_index_or page (byte - 128) none

-- a byte has a character
abbrev pub HasCharacter : List ℕ → ℕ → Type 0
HasCharacter page byte = character_in page byte ≢ none

-- this is the character of a byte, if it has one
abbrev pub IsCharacter : List ℕ → ℕ → Option ℕ → Type 0
IsCharacter page byte character = MatchOption character (character_in page byte ≡ none) (λ c. (c ≡ character_in page byte) × HasCharacter page byte)
