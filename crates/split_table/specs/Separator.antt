-- What stands between the fields of a table, by its line of titles.
use Rattle.std.specs.Prelude.{◌≢◌, ℕ, Bool, ◌==◌, ◌||◌, not, if◌then◌else◌, List, drop, Option, Some, None}
use Rattle.std.specs.List.{before_first, find, list_any, position_or_len}

-- whether a byte ends a line
abbrev pub ends_line : ℕ → Bool
ends_line b = b == 10 || b == 13

-- the text from its first line on that is not blank
abbrev pub from_first_line : List ℕ → List ℕ
from_first_line text = drop (position_or_len (λ b. not (ends_line b)) text) text

-- the first line that is not blank
abbrev pub first_line : List ℕ → List ℕ
first_line text = before_first ends_line (from_first_line text)

-- a comma or a semicolon, whichever comes first
abbrev pub first_sign : List ℕ → Option ℕ
first_sign titles = find (λ b. b == 44 || b == 59) titles

-- what stands between fields below such titles, where a comma or a semicolon is in their line or none
abbrev pub separator_by : List ℕ → Option ℕ → ℕ
separator_by titles (Some sign) = if sign == 59 then 59 else 44
separator_by titles None = if list_any (λ b. b == 9) titles then 9 else 44

-- what may stand between fields: it ends no line
abbrev pub PartsFields : ℕ → Type 0
PartsFields separator = (separator ≢ 10) × (separator ≢ 13)

-- what stands between fields below this line of titles
abbrev pub separator_in : List ℕ → ℕ
separator_in titles = separator_by titles (first_sign titles)

-- what stands between the fields of a table
unfoldable pub separator_of : List ℕ → ℕ
separator_of text = separator_in (first_line text)
