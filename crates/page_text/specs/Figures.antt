-- How numbers are written. Quotients of whole numbers are rounded once, halves up.
use Rattle.std.specs.Prelude.{ℕ, ◌+◌, ◌-◌, ◌*◌, ◌/◌, ◌%◌, ◌==◌, nat_le, nat_lt, Bool, ◌&&◌, if◌then◌else◌, List, [], ◌∷◌, ◌++◌, codes, decimal, length, Option, Some, None}
use Rattle.range_plane.specs.declared.scale.Scale.{Scale}
use Rattle.range_plane.specs.declared.scale.Scale.TheVariants.{Metre, Decimetre}
use Rattle.page_text.specs.declared.fixed.Places.{Places}
use Rattle.page_text.specs.declared.fixed.Places.TheVariants.{Whole, Tenths, Hundredths}

-- what stands before a digit that is not the first, where so many are left with it
abbrev pub comma_before : ℕ → List ℕ
comma_before left = if left % 3 == 0 then codes "," else []

-- digits behind the first
unfoldable pub grouped_behind : List ℕ → List ℕ
grouped_behind [] = []
grouped_behind (first ∷ others) = comma_before (length (first ∷ others)) ++ first ∷ [] ++ grouped_behind others

-- digits with commas between thousands
abbrev pub grouped_digits : List ℕ → List ℕ
grouped_digits [] = []
grouped_digits (first ∷ others) = first ∷ grouped_behind others

abbrev pub grouped : ℕ → List ℕ
grouped number = grouped_digits (decimal number)

-- a quotient rounded, halves up
abbrev pub rounded : ℕ → ℕ → ℕ
rounded part whole = (2 * part + whole) / (2 * whole)

-- how many of its last places one has
abbrev pub power : Places → ℕ
power Whole = 1
power Tenths = 10
power Hundredths = 100

-- a digit
abbrev pub digit : ℕ → List ℕ
digit number = (48 + number) ∷ []

-- what stands behind the whole part of a number of such places
abbrev pub decimals : Places → ℕ → List ℕ
decimals Whole rest = []
decimals Tenths rest = codes "." ++ digit rest
decimals Hundredths rest = codes "." ++ digit (rest / 10) ++ digit (rest % 10)

-- a number of such places
abbrev pub placed : ℕ → Places → List ℕ
placed scaled places = grouped (scaled / power places) ++ decimals places (scaled % power places)

-- a quotient with so many decimals
unfoldable pub fixed : ℕ → ℕ → Places → List ℕ
fixed part whole places = placed (rounded (part * power places) whole) places

-- a count, and a count of fixes
abbrev pub counted : ℕ → List ℕ
counted count = fixed count 1 Whole

abbrev pub fixes_word : ℕ → List ℕ
fixes_word count = if count == 1 then codes " fix" else codes " fixes"

abbrev pub fixes : ℕ → List ℕ
fixes count = counted count ++ fixes_word count

-- the places of a quotient that has three digits, or all that stand before its point
abbrev pub three_places : ℕ → ℕ → Places
three_places part whole = if nat_le (100 * whole) part then Whole else if nat_le (10 * whole) part then Tenths else Hundredths

unfoldable pub three_digits : ℕ → ℕ → List ℕ
three_digits part whole = fixed part whole (three_places part whole)

-- how much doubled area a hectare has, and a square metre
abbrev pub hectare : Scale → ℕ
hectare Metre = 20000
hectare Decimetre = 2000000

abbrev pub square_metre : Scale → ℕ
square_metre Metre = 2
square_metre Decimetre = 200

-- whether a doubled area is below a hectare and not nothing
abbrev pub is_small : ℕ → Scale → Bool
is_small area2 unit = nat_lt 0 area2 && nat_lt area2 (hectare unit)

-- the sign of square metres
abbrev pub square_metres : List ℕ
square_metres = codes " m" ++ 0xC2 ∷ 0xB2 ∷ []

-- a doubled area as a number of hectares, or of square metres with their sign
unfoldable pub hectares : ℕ → Scale → List ℕ
hectares area2 unit =
    if is_small area2 unit then three_digits area2 (square_metre unit) ++ square_metres
    else if area2 == 0 then codes "0" else three_digits area2 (hectare unit)

-- a doubled area with the sign of its unit
abbrev pub hectare_sign : Bool → List ℕ
hectare_sign small = if small then [] else codes " ha"

abbrev pub with_sign : ℕ → Scale → List ℕ
with_sign area2 unit = hectares area2 unit ++ hectare_sign (is_small area2 unit)

-- seconds as a number of days
abbrev pub days : ℕ → List ℕ
days seconds = fixed seconds 86400 (if nat_lt seconds 864000 then Tenths else Whole)

-- what stands for a number that there is not: a dash
abbrev pub nothing : List ℕ
nothing = 0xE2 ∷ 0x80 ∷ 0x93 ∷ []

-- a length of time, of which twice the seconds are given
abbrev pub length_of_time : ℕ → List ℕ
length_of_time seconds2 =
    if nat_lt seconds2 200 then fixed seconds2 2 Whole ++ codes " s"
    else if nat_lt seconds2 12000 then fixed seconds2 120 Whole ++ codes " min"
    else if nat_lt seconds2 720000 then fixed seconds2 7200 Tenths ++ codes " h"
    else fixed seconds2 172800 Tenths ++ codes " d"

abbrev pub interval : Option ℕ → List ℕ
interval None = nothing
interval (Some seconds2) = length_of_time seconds2

-- a share of fixes in whole per cent; what is neither nothing nor all is not written so
abbrev pub share_number : ℕ → ℕ → List ℕ
share_number count all =
    if nat_lt 0 count && nat_lt (200 * count) all then codes "<1"
    else if nat_lt count all && nat_le (200 * (all - count)) all then codes ">99"
    else fixed (100 * count) all Whole

abbrev pub share_of_fixes : ℕ → ℕ → List ℕ
share_of_fixes count all = share_number count all ++ codes " %"

-- a count of fixes with its share, between which and its sign no line ends
abbrev pub unbroken : List ℕ
unbroken = 0xC2 ∷ 0xA0 ∷ []

abbrev pub count_with_share : ℕ → ℕ → List ℕ
count_with_share count all =
    if count == 0 then codes "0" else counted count ++ codes " (" ++ share_number count all ++ unbroken ++ codes "%)"

-- a share of an area in tenths of a per cent
abbrev pub share_of_area : ℕ → ℕ → List ℕ
share_of_area part whole = if whole == 0 then nothing else fixed (100 * part) whole Tenths ++ codes " %"

-- what stands between a word and so many behind it
abbrev pub between : ℕ → List ℕ
between left = if left == 0 then [] else if left == 1 then codes " and " else codes ", "

-- words with commas, and 'and' before the last
unfoldable pub listed : List (List ℕ) → List ℕ
listed [] = []
listed (word ∷ others) = word ++ between (length others) ++ listed others
