-- How far rounding moves a number.
use Rattle.std.specs.Prelude.{ℕ, ◌^◌, ℤ, pos, neg_ℤ, ◌-ℤ◌, ◌*ℤ◌, ◌≤ℤ◌, ◌<ℤ◌}
use Rattle.split_numbers.specs.Decimal.{rounded}

-- twice what lies between a number of units and what it is rounded to, over 10^k
abbrev pub twice_moved : ℕ → ℤ → ℕ → ℤ
twice_moved units n k = pos 2 *ℤ (rounded units n k *ℤ pos (10 ^ k) -ℤ pos units *ℤ n)

-- a number is moved up by at most half a unit, and down by less
abbrev pub RoundingMovesByAtMostHalfAUnit : Type 0
RoundingMovesByAtMostHalfAUnit = (units : ℕ) (n : ℤ) (k : ℕ) → (twice_moved units n k ≤ℤ pos (10 ^ k)) × (neg_ℤ (pos (10 ^ k)) <ℤ twice_moved units n k)
