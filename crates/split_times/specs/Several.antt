-- Several forms of times.
use Rattle.std.specs.Prelude.{ℕ, ◌+◌, ◌==◌, nat_lt, Bool, if◌then◌else◌, List, [], ◌∷◌, length, Option, Some, None, Result, Ok, Err}
use Rattle.std.specs.List.{slice_split}
use Rattle.split_times.specs.Form.{form_time}
use Rattle.split_times.specs.Signs.{form_fault}
use Rattle.split_times.specs.declared.forms.FormTime.{FormTime}
use Rattle.split_times.specs.declared.local.LocalTime.{LocalTime}
use Rattle.split_times.specs.declared.moment.TimeFault.{TimeFault}
use Rattle.split_times.specs.declared.moment.TimeFault.TheVariants.{NotTime, MoreThanNineDecimals, Before1970}
use Rattle.split_times.specs.declared.signs.FormFault.{FormFault}
use Rattle.split_times.specs.declared.signs.FormFault.TheVariants.{TooLong}

-- whether a byte parts forms
abbrev pub is_bar : ℕ → Bool
is_bar b = b == 124

-- the forms between bars
abbrev pub forms_of : List ℕ → List (List ℕ)
forms_of text = slice_split is_bar text

-- a fault, or else another
abbrev pub fault_or : Option FormFault → Option FormFault → Option FormFault
fault_or None other = other
fault_or (Some fault) other = Some fault

-- the fault of the first form that is none
unfoldable pub first_fault : List (List ℕ) → Option FormFault
first_fault [] = None
first_fault (form ∷ others) = fault_or (form_fault form) (first_fault others)

-- why a text is no list of forms
abbrev pub forms_fault : List ℕ → Option FormFault
forms_fault text = if nat_lt 255 (length text) then Some TooLong else first_fault (forms_of text)

-- what is found by a form after so many, or else, where the text has another form, by those behind it
abbrev pub time_or : ℕ → Result LocalTime TimeFault → Result FormTime TimeFault → Result FormTime TimeFault
time_or before (Ok time) other = Ok (record { time = time; form = before })
time_or before (Err NotTime) other = other
time_or before (Err MoreThanNineDecimals) other = Err MoreThanNineDecimals
time_or before (Err Before1970) other = Err Before1970

-- the time of a text under the first of forms by which it is one, of which so many come before
unfoldable pub first_time : List (List ℕ) → ℕ → List ℕ → Result FormTime TimeFault
first_time [] before text = Err NotTime
first_time (form ∷ others) before text = time_or before (form_time form text) (first_time others (before + 1) text)
