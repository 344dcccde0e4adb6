-- The first fix of each piece of time.
use Rattle.std.specs.Prelude.{ℕ, ◌==◌, Bool, not, if◌then◌else◌, List, Option, ℤ, pos}
use Rattle.std.specs.Int.{int_div_euclid}
use Rattle.std.specs.List.{list_any}
use Rattle.std.specs.Ordering.{int_eq}
use Rattle.jiff_tz.specs.declared.tzif.Tzif.{Tzif}
use Rattle.split_clock.specs.Clock.{local_second}
use Rattle.split_tracks.specs.declared.fate.Entry.{Entry}

-- the piece of time that an entry is in, where pieces of so many seconds are counted by the clock of a zone from midnight of 1
-- January 1970 on; pieces of no second are one
abbrev pub piece_of : ℕ → Option Tzif → Entry → ℤ
piece_of length zone entry = if length == 0 then pos 0 else int_div_euclid (local_second zone entry.moment.second) (pos length)

-- the filter of one fix in each piece: an entry is kept if none that is kept before it is in the same piece
abbrev pub is_first : (Entry → ℤ) → List Entry → Entry → Bool
is_first piece kept entry = not (list_any (λ before. int_eq (piece before) (piece entry)) kept)
