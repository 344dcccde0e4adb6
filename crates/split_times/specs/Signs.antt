-- Which signs a form of times has, and why they make no form.
use Rattle.std.specs.Prelude.{ℕ, Bool, true, false, ◌&&◌, ◌||◌, not, if◌then◌else◌, List, [], ◌∷◌, Option, Some, None, Result, Ok, Err}
use Rattle.split_times.specs.Forms.{pieces_of}
use Rattle.split_times.specs.declared.sign.Sign.{Sign}
use Rattle.split_times.specs.declared.sign.Sign.TheVariants as sign
use Rattle.split_times.specs.declared.sign.Piece.{Piece}
use Rattle.split_times.specs.declared.sign.Piece.TheVariants as piece
use Rattle.split_times.specs.declared.signs.FormFault.{FormFault}
use Rattle.split_times.specs.declared.signs.FormFault.TheVariants.{UnknownSign, SaidTwice, NoYear, NoDay, HalfOfDay, MinuteWithoutHour, SecondWithoutMinute}
use Rattle.split_times.specs.declared.signs.Signs.{Signs}

-- no sign
abbrev pub no_signs : Signs
no_signs = record {
  year = false;
  month = false;
  day = false;
  day_of_year = false;
  hour = false;
  hour_of_half = false;
  half = false;
  minute = false;
  second = false;
}

-- the signs with another one, if what it says was not said before
abbrev pub once : Bool → Signs → Result Signs FormFault
once said signs = if said then Err SaidTwice else Ok signs

-- the signs with another one
abbrev pub noted : Sign → Signs → Result Signs FormFault
noted sign.Year signs = once signs.year (record signs { year = true })
noted sign.ShortYear signs = once signs.year (record signs { year = true })
noted sign.Month signs = once signs.month (record signs { month = true })
noted sign.MonthName signs = once signs.month (record signs { month = true })
noted sign.Day signs = once signs.day (record signs { day = true })
noted sign.DayOfYear signs = once signs.day_of_year (record signs { day_of_year = true })
noted sign.Hour signs = once signs.hour (record signs { hour = true })
noted sign.HourOfHalf signs = once signs.hour_of_half (record signs { hour_of_half = true })
noted sign.Half signs = once signs.half (record signs { half = true })
noted sign.Minute signs = once signs.minute (record signs { minute = true })
noted sign.Second signs = once signs.second (record signs { second = true })
noted sign.Unknown signs = Err UnknownSign

-- what signs come to with others behind them, or the first fault
abbrev pub noted_then : Result Signs FormFault → (Signs → Result Signs FormFault) → Result Signs FormFault
noted_then (Ok signs) others = others signs
noted_then (Err fault) others = Err fault

-- the signs among pieces, beside those that were before them
unfoldable pub signs_of : List Piece → Signs → Result Signs FormFault
signs_of [] signs = Ok signs
signs_of (piece.Byte b ∷ pieces) signs = signs_of pieces signs
signs_of (piece.Sign s ∷ pieces) signs = noted_then (noted s signs) (signs_of pieces)

-- why signs that are known, and of which no two are of one kind, make no form
abbrev pub unclear : Signs → Option FormFault
unclear signs =
    if signs.day_of_year && (signs.month || signs.day) || signs.hour && signs.hour_of_half then Some SaidTwice
    else if not signs.year then Some NoYear
    else if not signs.day_of_year && not (signs.month && signs.day) then Some NoDay
    else if (signs.hour_of_half && not signs.half || not signs.hour_of_half && signs.half) then Some HalfOfDay
    else if signs.minute && not signs.hour && not signs.hour_of_half then Some MinuteWithoutHour
    else if signs.second && not signs.minute then Some SecondWithoutMinute
    else None

-- the fault of signs, or of what they make
abbrev pub fault_of : Result Signs FormFault → Option FormFault
fault_of (Ok signs) = unclear signs
fault_of (Err fault) = Some fault

-- why a text is no form
abbrev pub form_fault : List ℕ → Option FormFault
form_fault form = fault_of (signs_of (pieces_of form) no_signs)
