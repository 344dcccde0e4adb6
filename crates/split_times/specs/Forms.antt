-- Forms of times: pieces, and which of them make a form.
use Rattle.std.specs.Prelude.{ℕ, ◌==◌, Bool, true, false, if◌then◌else◌, List, [], ◌∷◌}
use Rattle.std.specs.Str.{byte}
use Rattle.split_times.specs.declared.sign.Sign.{Sign}
use Rattle.split_times.specs.declared.sign.Sign.TheVariants as sign
use Rattle.split_times.specs.declared.sign.Piece.{Piece}
use Rattle.split_times.specs.declared.sign.Piece.TheVariants as piece

-- the sign of a letter behind `%`: Y, y, m, b, d, j, H, I, p, M, S
abbrev pub sign_of : ℕ → Sign
sign_of letter =
    if letter == byte "Y" then sign.Year
    else if letter == byte "y" then sign.ShortYear
    else if letter == byte "m" then sign.Month
    else if letter == byte "b" then sign.MonthName
    else if letter == byte "d" then sign.Day
    else if letter == byte "j" then sign.DayOfYear
    else if letter == byte "H" then sign.Hour
    else if letter == byte "I" then sign.HourOfHalf
    else if letter == byte "p" then sign.Half
    else if letter == byte "M" then sign.Minute
    else if letter == byte "S" then sign.Second
    else sign.Unknown

-- the pieces of a form, or of what stands behind a `%` of it
abbrev pub pieces_behind : Bool → List ℕ → List Piece
pieces_behind false [] = []
pieces_behind true [] = piece.Byte (byte "%") ∷ []
pieces_behind false (b ∷ form) = if b == byte "%" then pieces_behind true form else piece.Byte b ∷ pieces_behind false form
pieces_behind true (b ∷ form) = piece.Sign (sign_of b) ∷ pieces_behind false form

-- the pieces of a form: `%` and a letter are a sign, and any other byte stands for itself
abbrev pub pieces_of : List ℕ → List Piece
pieces_of form = pieces_behind false form
