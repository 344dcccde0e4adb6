-- Where a record of several tables stands.
use Rattle.std.specs.Prelude.{ℕ, ◌+◌, ◌-◌, List, [], ◌∷◌, if◌then◌else◌, nat_le}

-- the same place, where one more table stands before the first
abbrev pub behind_one : ℕ × ℕ → ℕ × ℕ
behind_one p = (p.0 + 1, p.1)

-- in which table a record of all stands, and its number there, where each table has so many records
unfoldable pub place_in : List ℕ → ℕ → ℕ × ℕ
place_in [] number = (0, number)
place_in (count ∷ counts) number = if nat_le number count then (0, number) else behind_one (place_in counts (number - count))
