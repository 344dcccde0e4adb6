-- Numbers in decimal digits.
use Rattle.std.specs.Prelude.{ℕ, Bool, List, ◌&&◌, length, nat_lt}
use Rattle.std.specs.List.{list_all}
use Rattle.std.specs.Char.{is_ascii_digit}

-- whether bytes are one or more digits, and nothing else
abbrev pub is_number : List ℕ → Bool
is_number bytes = nat_lt 0 (length bytes) && list_all is_ascii_digit bytes
