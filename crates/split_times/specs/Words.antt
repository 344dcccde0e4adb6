-- The parts of a time, and what a word under a sign says of them.
use Rattle.std.specs.Prelude.{ℕ, ◌+◌, ◌^◌, ◌<◌, IfSome, nat_le, nat_lt, Bool, ◌==◌, ◌&&◌, not, if◌then◌else◌, codes, List, length, take, drop, slice_index, Option, Some, None}
use Rattle.std.specs.Char.{eq_ignore_ascii_case, is_ascii_digit}
use Rattle.std.specs.List.{position_or_len}
use Rattle.std.specs.Str.{str_eq_ignore_ascii_case}
use Rattle.split_times.specs.Calendar.{◌>>=◌}
use Rattle.split_times.specs.Fields.{are_decimals, number_in}
use Rattle.split_times.specs.Iso.{nanoseconds}
use Rattle.split_times.specs.declared.words.Half.{Half}
use Rattle.split_times.specs.declared.words.Half.TheVariants.{Morning, Afternoon}
use Rattle.split_times.specs.declared.words.TimeParts.{TimeParts}
use Rattle.split_times.specs.declared.sign.Sign.{Sign}
use Rattle.split_times.specs.declared.sign.Sign.TheVariants as sign
use Rattle.split_times.specs.declared.sign.Piece.{Piece}
use Rattle.split_times.specs.declared.sign.Piece.TheVariants as piece

-- what nothing says of a time
abbrev pub no_parts : TimeParts
no_parts = record {
  year = 1970;
  month = 1;
  day = 1;
  day_of_year = None;
  hour = 0;
  half = None;
  minute = 0;
  second = 0;
  nanosecond = Some 0;
}

-- the nanoseconds are part of a second, where they are known
abbrev pub HasPart : TimeParts → Type 0
HasPart parts = IfSome parts.nanosecond (λ nanosecond. nanosecond < 10 ^ 9)

-- how many digits stand first in a text
abbrev pub digits_ahead : List ℕ → ℕ
digits_ahead text = position_or_len (λ b. not (is_ascii_digit b)) text

-- the number of at least so many digits, and of at most so many
abbrev pub few_digits : ℕ → ℕ → List ℕ → Option ℕ
few_digits least most word = if nat_le least (length word) && nat_le (length word) most then number_in word else None

-- the year of two digits: those from 69 on are of 1969 to 1999
abbrev pub full_year : ℕ → ℕ
full_year short = if nat_lt short 69 then 2000 + short else 1900 + short

-- the month of a name of three letters, in any capitals
abbrev pub month_in : List ℕ → Option ℕ
month_in word =
    if str_eq_ignore_ascii_case word (codes "jan") then Some 1
    else if str_eq_ignore_ascii_case word (codes "feb") then Some 2
    else if str_eq_ignore_ascii_case word (codes "mar") then Some 3
    else if str_eq_ignore_ascii_case word (codes "apr") then Some 4
    else if str_eq_ignore_ascii_case word (codes "may") then Some 5
    else if str_eq_ignore_ascii_case word (codes "jun") then Some 6
    else if str_eq_ignore_ascii_case word (codes "jul") then Some 7
    else if str_eq_ignore_ascii_case word (codes "aug") then Some 8
    else if str_eq_ignore_ascii_case word (codes "sep") then Some 9
    else if str_eq_ignore_ascii_case word (codes "oct") then Some 10
    else if str_eq_ignore_ascii_case word (codes "nov") then Some 11
    else if str_eq_ignore_ascii_case word (codes "dec") then Some 12
    else None

-- the half of the day of `am` or `pm`, in any capitals
abbrev pub half_in : List ℕ → Option Half
half_in word =
    if str_eq_ignore_ascii_case word (codes "am") then Some Morning
    else if str_eq_ignore_ascii_case word (codes "pm") then Some Afternoon
    else None

-- the nanoseconds of a point and at most nine digits, or of nothing
abbrev pub nanosecond_in : List ℕ → Option ℕ
nanosecond_in decimals =
    if length decimals == 0 then Some 0
    else if nat_le (length decimals) 10 then Some (nanoseconds (drop 1 decimals))
    else None

-- the parts with the second of a word, which may have decimals
unfoldable pub with_second : List ℕ → TimeParts → Option TimeParts
with_second word parts = do
  second ← few_digits 1 2 (take (digits_ahead word) word)
  if are_decimals (drop (digits_ahead word) word)
      then Some (record parts { second = second; nanosecond = nanosecond_in (drop (digits_ahead word) word) }) else None

-- whether a word is this byte, or the same letter in another capital
abbrev pub is_byte : ℕ → List ℕ → Bool
is_byte byte word = length word == 1 && eq_ignore_ascii_case byte (slice_index word 0)

-- the parts with what a word says under a sign; none where it says nothing
unfoldable pub with_sign : Sign → List ℕ → TimeParts → Option TimeParts
with_sign sign.Year word parts = do
  year ← few_digits 4 4 word
  Some (record parts { year = year })
with_sign sign.ShortYear word parts = do
  short ← few_digits 2 2 word
  Some (record parts { year = full_year short })
with_sign sign.Month word parts = do
  month ← few_digits 1 2 word
  Some (record parts { month = month })
with_sign sign.MonthName word parts = do
  month ← month_in word
  Some (record parts { month = month })
with_sign sign.Day word parts = do
  day ← few_digits 1 2 word
  Some (record parts { day = day })
with_sign sign.DayOfYear word parts = do
  day ← few_digits 1 3 word
  Some (record parts { day_of_year = Some day })
with_sign sign.Hour word parts = do
  hour ← few_digits 1 2 word
  Some (record parts { hour = hour })
with_sign sign.HourOfHalf word parts = do
  hour ← few_digits 1 2 word
  Some (record parts { hour = hour })
with_sign sign.Half word parts = do
  half ← half_in word
  Some (record parts { half = Some half })
with_sign sign.Minute word parts = do
  minute ← few_digits 1 2 word
  Some (record parts { minute = minute })
with_sign sign.Second word parts = with_second word parts
with_sign sign.Unknown word parts = None

-- the parts with what a word says under a piece
abbrev pub with_word : Piece → List ℕ → TimeParts → Option TimeParts
with_word (piece.Byte byte) word parts = if is_byte byte word then Some parts else None
with_word (piece.Sign s) word parts = with_sign s word parts
