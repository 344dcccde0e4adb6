-- The first and the last second that are wanted.
use Rattle.std.specs.Prelude.{ℕ, ℤ, pos, ◌+◌, nat_lt, int_lt, unsigned_abs, Bool, ◌&&◌, not, if◌then◌else◌, Result, Ok, Err}
use Rattle.split_clock.specs.declared.clock.Moments.{Moments}
use Rattle.split_clock.specs.declared.clock.Moments.TheVariants as moments
use Rattle.split_words.specs.declared.bounds.BoundFault.{BoundFault}
use Rattle.split_words.specs.declared.bounds.BoundFault.TheVariants.{Before1970, PassedOver}

-- the bound of a second since 1970 in UTC and of nanoseconds: as a first second the next whole one, and 0 before 1970
abbrev pub bound_at : ℤ → ℕ → Bool → Result ℕ BoundFault
bound_at second nanosecond is_end =
    if int_lt second (pos 0) then (if is_end then Err Before1970 else Ok 0)
    else if nat_lt 0 nanosecond && not is_end then Ok (unsigned_abs second + 1)
    else Ok (unsigned_abs second)

-- the bound of a time that a clock showed at these moments: of two as a first second the first, and as a last the second
abbrev pub bound_by : Moments → ℕ → Bool → Result ℕ BoundFault
bound_by moments.None nanosecond is_end = Err PassedOver
bound_by (moments.One second) nanosecond is_end = bound_at second nanosecond is_end
bound_by (moments.Two first second) nanosecond is_end = bound_at (if is_end then second else first) nanosecond is_end
