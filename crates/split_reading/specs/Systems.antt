-- Reference systems, by their codes.
use Rattle.std.specs.Prelude.{ℕ, ◌-◌, ◌==◌, nat_le, Bool, true, false, ◌&&◌, if◌then◌else◌, List, [], ◌∷◌}
use Rattle.std.specs.List.{list_any}
use Rattle.split_reading.specs.declared.system.System.{System}
use Rattle.split_reading.specs.declared.system.System.TheVariants.{Degrees, Mercator, Utm, Other}

-- the codes of longitude and latitude
abbrev pub of_degrees : List ℕ
of_degrees = 4326 ∷ 4979 ∷ 4258 ∷ 4269 ∷ 4267 ∷ 4283 ∷ 7844 ∷ 4674 ∷ []

-- the codes of projections of Mercator
abbrev pub of_mercator : List ℕ
of_mercator = 3857 ∷ 3395 ∷ 3785 ∷ 54_004 ∷ 102_100 ∷ 102_113 ∷ 900_913 ∷ []

-- whether a number is from one to another
abbrev pub is_from : ℕ → ℕ → ℕ → Bool
is_from first last number = nat_le first number && nat_le number last

-- a zone of UTM by its number
abbrev pub utm : ℕ → Bool → System
utm number is_south = Utm (record { number = number; is_south = is_south })

-- what the system of a code is
abbrev pub system_with : ℕ → System
system_with code =
    if list_any (λ own. own == code) of_degrees then Degrees
    else if list_any (λ own. own == code) of_mercator then Mercator
    else if is_from 32_601 32_660 code then utm (code - 32_600) false
    else if is_from 32_701 32_760 code then utm (code - 32_700) true
    else if is_from 25_828 25_838 code then utm (code - 25_800) false
    else if is_from 26_901 26_923 code then utm (code - 26_900) false
    else Other
