-- Parts of a line of a record, and what they say.
use Rattle.std.specs.Prelude.{ℕ, ℤ, pos, neg_ℤ, Bool, ◌==◌, ◌&&◌, ◌||◌, not, nat_le, if◌then◌else◌, codes, List, length, Option, Some, None, option_map}
use Rattle.std.specs.Char.{is_ascii_digit}
use Rattle.std.specs.List.{list_all}
use Rattle.std.specs.Str.{bytes_eq}
use Rattle.split_tracks.specs.declared.fate.Reason.{Reason}
use Rattle.split_tracks.specs.declared.fate.Reason.TheVariants as reasons
use Rattle.page_report.specs.Fields.{◌>>=◌, behind, number_up_to}
use Rattle.page_record.specs.declared.fields.TheConstants.{MOST}

-- a count
abbrev pub count_of : List ℕ → Option ℕ
count_of text = number_up_to MOST text

-- what is as much less than 0
abbrev pub minus : ℕ → Option ℤ
minus number = if number == 0 then None else Some (neg_ℤ (pos number))

-- a whole number, with a minus before it where it is less than 0
abbrev pub whole_by : List ℕ → Option (List ℕ) → Option ℤ
whole_by text None = option_map pos (count_of text)
whole_by text (Some digits) = count_of digits >>= minus

unfoldable pub whole_of : List ℕ → Option ℤ
whole_of text = whole_by text (behind (codes "-") text)

-- a checksum: 64 digits from 0 to f
abbrev pub is_sum_digit : ℕ → Bool
is_sum_digit byte = is_ascii_digit byte || (nat_le 97 byte && nat_le byte 102)

abbrev pub is_sum : List ℕ → Bool
is_sum text = length text == 64 && list_all is_sum_digit text

unfoldable pub sum_of : List ℕ → Option (List ℕ)
sum_of text = if is_sum text then Some text else None

-- whether a text is a plain name of a file
unfoldable pub is_file_name : List ℕ → Bool
is_file_name text =
    not (length text == 0) && not (bytes_eq text (codes ".")) && not (bytes_eq text (codes "..")) && list_all (λ byte. not (byte == 47)) text

-- why fixes are left out, as records name it
unfoldable pub first_reason_of : List ℕ → Option Reason
first_reason_of words =
    if bytes_eq words (codes "animal") then Some reasons.Animal
    else (if bytes_eq words (codes "coordinates") then Some reasons.Coordinates
    else (if bytes_eq words (codes "zero") then Some reasons.Zero
    else (if bytes_eq words (codes "sensor") then Some reasons.Sensor
    else (if bytes_eq words (codes "outlier") then Some reasons.Outlier
    else (if bytes_eq words (codes "class") then Some reasons.Class
    else (if bytes_eq words (codes "no dop") then Some reasons.NoDop else None))))))

unfoldable pub last_reason_of : List ℕ → Option Reason
last_reason_of words =
    if bytes_eq words (codes "dop") then Some reasons.Dop
    else (if bytes_eq words (codes "type") then Some reasons.Type
    else (if bytes_eq words (codes "before") then Some reasons.Before
    else (if bytes_eq words (codes "after") then Some reasons.After
    else (if bytes_eq words (codes "grid") then Some reasons.Grid
    else (if bytes_eq words (codes "speed") then Some reasons.Speed
    else (if bytes_eq words (codes "every") then Some reasons.Every else None))))))

abbrev pub or_reason : Option Reason → Option Reason → Option Reason
or_reason None other = other
or_reason (Some reason) other = Some reason

unfoldable pub reason_of : List ℕ → Option Reason
reason_of words = or_reason (first_reason_of words) (last_reason_of words)
