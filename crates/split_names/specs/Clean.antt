-- The name of an animal as the name of a file.
use Rattle.std.specs.Prelude.{ℕ, ◌==◌, nat_lt, Bool, ◌||◌, if◌then◌else◌, List, [], ◌∷◌, map, codes}
use Rattle.std.specs.List.{list_any}
use Rattle.split_names.specs.declared.clean.TheConstants.{NAME_BYTES}
use Rattle.split_names.specs.Cut.{cut}
use Rattle.split_names.specs.Device.{is_device}

-- whether a byte is a control character of ASCII, or one of the signs that no name of a file may have
abbrev pub is_refused : ℕ → Bool
is_refused b = nat_lt b 32 || b == 127 || list_any (λ sign. b == sign) (codes "<>:\"/\\|?*,")

-- a byte, or `_` in its place
abbrev pub plain : ℕ → ℕ
plain b = if is_refused b then 95 else b

-- a byte at the start or the end of a name: `_` for a point or a blank
abbrev pub plain_at_edge : ℕ → ℕ
plain_at_edge b = if b == 46 || b == 32 then 95 else b

-- bytes of which the first is no point and no blank
abbrev pub plain_at_start : List ℕ → List ℕ
plain_at_start [] = []
plain_at_start (b ∷ bytes) = plain_at_edge b ∷ bytes

-- bytes of which the last is no point and no blank
abbrev pub plain_at_end : List ℕ → List ℕ
plain_at_end [] = []
plain_at_end (b ∷ []) = plain_at_edge b ∷ []
plain_at_end (b ∷ c ∷ bytes) = b ∷ plain_at_end (c ∷ bytes)

-- a name with `_` before it where it is that of a device of Windows
abbrev pub no_device : List ℕ → List ℕ
no_device name = if is_device name then 95 ∷ name else name

-- the name of an animal as the name of a file
unfoldable pub clean : List ℕ → List ℕ
clean name = plain_at_end (cut NAME_BYTES (no_device (plain_at_start (map plain name))))
