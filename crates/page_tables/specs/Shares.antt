-- Shares and lengths of time with four decimals.
use Rattle.std.specs.Prelude.{ℕ, ◌/◌, ◌%◌, ◌==◌, if◌then◌else◌, List, [], Option, Some, None}
use Rattle.page_tables.specs.Doubles.{ten_thousandths}
use Rattle.page_tables.specs.Numbers.{number}

-- a quotient with four decimals
abbrev pub share : ℕ → ℕ → List ℕ
share part whole = number (ten_thousandths part whole / 10000) 4 (ten_thousandths part whole % 10000)

-- the cell of a quotient, which is empty where a number is not known or there is nothing
unfoldable pub share_cell : Option ℕ → Option ℕ → List ℕ
share_cell None whole = []
share_cell (Some part) None = []
share_cell (Some part) (Some whole) = if whole == 0 then [] else share part whole
