-- The text that bytes are in an encoding.
use Rattle.std.specs.Prelude.{◌≡◌, ⊤, ℕ, List, encode_utf8_all}
use Rattle.split_encoding.specs.declared.encoding.Encoding.{Encoding}
use Rattle.split_encoding.specs.declared.encoding.Encoding.TheVariants.{Ascii, Latin1, Utf8}

-- bytes of ASCII and of UTF-8 are the text already, and each byte of Latin-1 is the number of its character; of the others
-- nothing is said here
abbrev pub IsTextOf : Encoding → List ℕ → List ℕ → Type 0
IsTextOf Ascii bytes text = text ≡ bytes
IsTextOf Utf8 bytes text = text ≡ bytes
IsTextOf Latin1 bytes text = text ≡ encode_utf8_all bytes
IsTextOf _ bytes text = ⊤
