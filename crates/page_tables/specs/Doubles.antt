-- Quotients as numbers of 53 binary digits round them, which is how tables were first written. Each step is a whole number.
use Rattle.std.specs.Prelude.{ℕ, Bool, zero, suc, ◌+◌, ◌*◌, ◌/◌, ◌%◌, ◌^◌, ◌==◌, nat_le, nat_lt, ◌&&◌, ◌||◌, if◌then◌else◌}
use Rattle.page_tables.specs.declared.doubles.Multiple.{Multiple}
use Rattle.page_tables.specs.declared.doubles.TheConstants.{MOST_DOUBLINGS}

-- a quotient rounded to a whole number, a half to the even one
abbrev pub even_rounded : ℕ → ℕ → ℕ
even_rounded part whole =
    if nat_lt (2 * (part % whole)) whole || (2 * (part % whole) == whole && part / whole % 2 == 0) then part / whole else part / whole + 1

-- whether the quotient of a part has 53 digits before the point
abbrev pub is_full : ℕ → ℕ → Bool
is_full part whole = nat_le (2 ^ 52 * whole) part

-- a part and a power, both doubled until the quotient of the part is so, so often at most
unfoldable pub doubled : ℕ → ℕ → ℕ → ℕ → Multiple
doubled zero part whole power = record { part = part; power = power }
doubled (suc more) part whole power =
    if is_full part whole then record { part = part; power = power } else doubled more (part * 2) whole (power * 2)

-- what the last of 53 digits of a product counts
abbrev pub last_place : ℕ → ℕ
last_place product = if nat_lt product (2 ^ 66) then 2 ^ 13 else 2 ^ 14

-- ten thousand times a number of 53 digits, rounded to as many
abbrev pub times_ten_thousand : ℕ → ℕ
times_ten_thousand scaled = even_rounded (10000 * scaled) (last_place (10000 * scaled)) * last_place (10000 * scaled)

-- how many ten thousandths a quotient is: the quotient, its product and the whole number are rounded, one after the other
abbrev pub ten_thousandths_of : Multiple → ℕ → ℕ
ten_thousandths_of own whole = even_rounded (times_ten_thousand (even_rounded own.part whole)) own.power

abbrev pub ten_thousandths : ℕ → ℕ → ℕ
ten_thousandths part whole = if part == 0 then 0 else ten_thousandths_of (doubled MOST_DOUBLINGS part whole 1) whole
