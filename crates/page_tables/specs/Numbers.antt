-- Numbers as tables have them: the shortest decimals of a number, without zeros at their end but for the first.
use Rattle.std.specs.Prelude.{ℕ, zero, suc, ◌+◌, ◌-◌, ◌*◌, ◌/◌, ◌%◌, ◌^◌, ◌==◌, Bool, not, nat_lt, ◌&&◌, if◌then◌else◌, List, [], ◌∷◌, ◌++◌, codes, decimal, length}
use Rattle.range_plane.specs.declared.scale.Scale.{Scale}
use Rattle.range_plane.specs.declared.scale.Scale.TheVariants.{Metre, Decimetre}
use Rattle.page_text.specs.Figures.{digit, hectare}

-- the last digits of a number, so many
unfoldable pub padded : ℕ → ℕ → List ℕ
padded zero number = []
padded (suc places) number = padded places (number / 10) ++ digit (number % 10)

-- whether the last of several decimals is a zero
abbrev pub has_zero : ℕ → ℕ → Bool
has_zero places number = nat_lt 1 places && number % 10 == 0

-- so many decimals without the zeros at their end, of which one stays
unfoldable pub trimmed : ℕ → ℕ → List ℕ
trimmed zero number = []
trimmed (suc places) number = if has_zero (suc places) number then trimmed places (number / 10) else padded (suc places) number

-- digits with a point behind the first, if there are more
abbrev pub pointed : List ℕ → List ℕ
pointed [] = []
pointed (first ∷ []) = first ∷ []
pointed (first ∷ second ∷ others) = first ∷ 46 ∷ second ∷ others

-- so many decimals of a small number, by its first digits and a power of ten, as in 5e-05
abbrev pub in_powers : ℕ → ℕ → List ℕ
in_powers places number = pointed (decimal number) ++ codes "e-0" ++ padded 1 (places + 1 - length (decimal number))

unfoldable pub small : ℕ → ℕ → List ℕ
small zero number = in_powers zero number
small (suc places) number = if has_zero (suc places) number then small places (number / 10) else in_powers (suc places) number

-- whether so many decimals are below a ten thousandth, and not nothing
abbrev pub is_small : ℕ → ℕ → Bool
is_small places decimals = not (decimals == 0) && nat_lt (decimals * 10000) (10 ^ places)

-- a number by its whole part and so many decimals; one below a ten thousandth is written by powers of ten
abbrev pub number : ℕ → ℕ → ℕ → List ℕ
number whole places decimals =
    if whole == 0 && is_small places decimals then small places decimals
    else decimal whole ++ codes "." ++ trimmed places decimals

-- how many decimals hectares have
abbrev pub places_of : Scale → ℕ
places_of Metre = 5
places_of Decimetre = 7

-- a doubled area as hectares, exactly: one more of it is five more in the last decimal
unfoldable pub hectares : ℕ → Scale → List ℕ
hectares area2 unit = number (area2 / hectare unit) (places_of unit) (area2 % hectare unit * 5)
