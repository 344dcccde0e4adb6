-- Which fixes are wanted, and why others are left out.
use Rattle.std.specs.Prelude.{ℕ, ℤ, pos, Bool, false, ◌==◌, ◌||◌, nat_lt, int_lt, not, if◌then◌else◌, List, length, Option, Some, None}
use Rattle.std.specs.Borrow.{Bor}
use Rattle.split_filters.specs.Words.{is_one_of}
use Rattle.split_tracks.specs.declared.fate.Reason.{Reason}
use Rattle.split_tracks.specs.declared.fate.Reason.TheVariants as reason
use Rattle.split_filters.specs.declared.filters.Filters.{Filters}

-- whether a word comes to one of those that are wanted; all are where none is named
abbrev pub is_wanted : List (Bor (List ℕ)) → List ℕ → Bool
is_wanted words word = length words == 0 || is_one_of words word

-- whether a fix of a sensor is wanted
abbrev pub is_of_sensor : Filters → List ℕ → Bool
is_of_sensor filters sensor = is_wanted filters.sensors.now sensor

-- a dilution of precision that is one: none is 0 or less
abbrev pub known_dop : Option ℤ → Option ℤ
known_dop None = None
known_dop (Some dop) = if int_lt (pos 0) dop then Some dop else None

-- why a fix is left out for its dilution of precision, where such a one is the greatest that is wanted
abbrev pub reason_above : ℤ → Option ℤ → Option Reason
reason_above most None = Some reason.NoDop
reason_above most (Some dop) = if int_lt most dop then Some reason.Dop else None

abbrev pub dop_reason : Option ℤ → Option ℤ → Option Reason
dop_reason None dop = None
dop_reason (Some most) dop = reason_above most (known_dop dop)

-- whether a second is before the first that is wanted
abbrev pub is_before : Option ℕ → ℕ → Bool
is_before None second = false
is_before (Some since) second = nat_lt second since

-- whether a second is after the last that is wanted
abbrev pub is_after : Option ℕ → ℕ → Bool
is_after None second = false
is_after (Some until) second = nat_lt until second

-- why a fix is left out for its time
abbrev pub time_reason : Filters → ℕ → Option Reason
time_reason filters second = if is_before filters.since second then Some reason.Before else if is_after filters.until second then Some reason.After else None

-- one reason, or else another
abbrev pub or_else : Option Reason → Option Reason → Option Reason
or_else (Some why) other = Some why
or_else None other = other

-- the first reason for which a fix of this class, dilution of precision, type and second is left out, in the order of filters
abbrev pub left_for : Filters → List ℕ → Option ℤ → List ℕ → ℕ → Option Reason
left_for filters class dop fix_type second =
    if not (is_wanted filters.classes.now class) then Some reason.Class
    else or_else (dop_reason filters.most_dop dop)
    (if not (is_wanted filters.types.now fix_type) then Some reason.Type else time_reason filters second)
