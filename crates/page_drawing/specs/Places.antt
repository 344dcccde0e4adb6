-- Places in a drawing: numbers of pixels, in tenths.
use Rattle.std.specs.Prelude.{ℕ, ◌*◌, ◌/◌, ◌%◌, List, [], ◌++◌, codes, decimal, if◌then◌else◌, ℤ, pos, ◌+ℤ◌, ◌*ℤ◌, int_lt, unsigned_abs}
use Rattle.std.specs.Int.{int_div_euclid}
use Rattle.page_text.specs.Figures.{digit}

-- a quotient in tenths, rounded once, halves up
abbrev pub tenths : ℤ → ℕ → ℤ
tenths part whole = int_div_euclid (pos 20 *ℤ part +ℤ pos whole) (pos (2 * whole))

-- what stands before a number
abbrev pub minus : ℤ → List ℕ
minus number = if int_lt number (pos 0) then codes "-" else []

-- tenths as they are written: with one decimal
abbrev pub tenths_text : ℤ → List ℕ
tenths_text number = minus number ++ decimal (unsigned_abs number / 10) ++ codes "." ++ digit (unsigned_abs number % 10)

-- a place
abbrev pub place : ℤ → ℕ → List ℕ
place part whole = tenths_text (tenths part whole)
