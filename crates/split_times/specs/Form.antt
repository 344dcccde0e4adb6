-- What a text says under a form of times.
use Rattle.std.specs.Prelude.{ℕ, ◌+◌, nat_lt, ◌==◌, Bool, true, false, ◌||◌, if◌then◌else◌, List, [], ◌∷◌, length, take, drop, Option, Some, None, Result, Err}
use Rattle.split_times.specs.Calendar.{◌>>=◌}
use Rattle.split_times.specs.Forms.{pieces_of}
use Rattle.split_times.specs.Local.{local_time_of}
use Rattle.split_times.specs.Words.{digits_ahead, no_parts, with_word}
use Rattle.split_times.specs.declared.local.LocalTime.{LocalTime}
use Rattle.split_times.specs.declared.moment.TimeFault.{TimeFault}
use Rattle.split_times.specs.declared.moment.TimeFault.TheVariants.{NotTime}
use Rattle.split_times.specs.declared.sign.Sign.TheVariants as sign
use Rattle.split_times.specs.declared.sign.Piece.{Piece}
use Rattle.split_times.specs.declared.sign.Piece.TheVariants as piece
use Rattle.split_times.specs.declared.words.TimeParts.{TimeParts}

-- how many bytes a point and the digits behind it have, where a text begins with a point
abbrev pub decimals_ahead : List ℕ → ℕ
decimals_ahead [] = 0
decimals_ahead (b ∷ text) = if b == 46 then 1 + digits_ahead text else 0

-- how many bytes of a text a second may take: two digits or one, with all digits behind a point or without a point
abbrev pub sizes_of_second : List ℕ → List ℕ
sizes_of_second text = (2 + decimals_ahead (drop 2 text)) ∷ 2 ∷ (1 + decimals_ahead (drop 1 text)) ∷ 1 ∷ []

-- how many any other piece may take: no word has more than four
abbrev pub sizes_of_others : List ℕ
sizes_of_others = 4 ∷ 3 ∷ 2 ∷ 1 ∷ []

-- whether a piece is a sign of digits
abbrev pub is_of_digits : Piece → Bool
is_of_digits (piece.Byte b) = false
is_of_digits (piece.Sign sign.MonthName) = false
is_of_digits (piece.Sign sign.Half) = false
is_of_digits (piece.Sign sign.Unknown) = false
is_of_digits (piece.Sign s) = true

-- whether the first of pieces is one
abbrev pub begins_with_digits : List Piece → Bool
begins_with_digits [] = false
begins_with_digits (p ∷ pieces) = is_of_digits p

-- all digits of a sign
abbrev pub full : Piece → ℕ
full (piece.Sign sign.Year) = 4
full (piece.Sign sign.DayOfYear) = 3
full p = 2

-- how many bytes of a text a sign of digits may take beside another, from whose digits only its own number of them parts it
abbrev pub sizes_of_full : Piece → List ℕ → List ℕ
sizes_of_full (piece.Sign sign.Second) text = (2 + decimals_ahead (drop 2 text)) ∷ 2 ∷ 2 ∷ 2 ∷ []
sizes_of_full p text = full p ∷ full p ∷ full p ∷ full p ∷ []

-- how many bytes of a text a piece may take, in the order in which they are tried, if it stands beside a sign of digits and if not
abbrev pub sizes : Bool → Piece → List ℕ → List ℕ
sizes true p text = if is_of_digits p then sizes_of_full p text else sizes_of_others
sizes false (piece.Sign sign.Second) text = sizes_of_second text
sizes false p text = sizes_of_others

-- one that is there, or else another
abbrev pub or_else : Option TimeParts → Option TimeParts → Option TimeParts
or_else None other = other
or_else (Some parts) other = Some parts

-- the first that is there of what is found by some sizes
abbrev pub first_by : (ℕ → Option TimeParts) → List ℕ → Option TimeParts
first_by found [] = None
first_by found (size ∷ others) = or_else (found size) (first_by found others)

-- what is found behind a word of so many bytes, by the rest of the text and the parts with the word
abbrev pub behind_word : Piece → List ℕ → TimeParts → (List ℕ → TimeParts → Option TimeParts) → ℕ → Option TimeParts
behind_word p text parts found size =
    if nat_lt (length text) size then None
    else with_word p (take size text) parts >>= (λ more. found (drop size text) more)

-- the parts of a text under the pieces of a form, behind a sign of digits or not, beside those that are said before: the first piece
-- takes the first of its sizes that has one of its words and leaves a text of the other pieces
unfoldable pub said : Bool → List Piece → List ℕ → TimeParts → Option TimeParts
said behind [] text parts = if length text == 0 then Some parts else None
said behind (p ∷ pieces) text parts =
    first_by (behind_word p text parts (said (is_of_digits p) pieces)) (sizes (behind || begins_with_digits pieces) p text)

-- the time of the parts of a text, if it has any
abbrev pub time_of : Option TimeParts → Result LocalTime TimeFault
time_of None = Err NotTime
time_of (Some parts) = local_time_of parts

-- the time of a text under a form
abbrev pub form_time : List ℕ → List ℕ → Result LocalTime TimeFault
form_time form text = time_of (said false (pieces_of form) text no_parts)
