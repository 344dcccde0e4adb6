-- The times of texts of a column.
use Rattle.std.specs.Prelude.{ℕ, false, List, Option, Some, None, Result, Ok, Err}
use Rattle.split_times.specs.Iso.{iso_time_in}
use Rattle.split_times.specs.Number.{number_moment}
use Rattle.split_times.specs.Orders.{day_orders, orders_by}
use Rattle.split_times.specs.Several.{first_time, forms_of}
use Rattle.split_times.specs.declared.forms.FormTime.{FormTime}
use Rattle.split_times.specs.declared.forms.Forms.{Forms}
use Rattle.split_times.specs.declared.iso.TextTime.{TextTime}
use Rattle.split_times.specs.declared.iso.TextTime.TheVariants.{Utc, Local}
use Rattle.split_times.specs.declared.moment.Moment.{Moment}
use Rattle.split_times.specs.declared.moment.TimeFault.{TimeFault}
use Rattle.split_times.specs.declared.number.NumberFault.{NumberFault}
use Rattle.split_times.specs.declared.number.NumberFault.TheVariants as number
use Rattle.split_times.specs.declared.orders.DayOrders.{DayOrders}
use Rattle.split_times.specs.declared.text.TextFault.{TextFault}
use Rattle.split_times.specs.declared.text.TextFault.TheVariants.{Time, Number}

-- the time of an ISO text, or why it is none
abbrev pub told_time : Result TextTime TimeFault → Result TextTime TextFault
told_time (Ok time) = Ok time
told_time (Err fault) = Err (Time fault)

-- the moment of a number, or else, where a text is none, another time
abbrev pub number_or : Result Moment NumberFault → Result TextTime TextFault → Result TextTime TextFault
number_or (Ok moment) other = Ok (Utc moment)
number_or (Err number.NotNumber) other = other
number_or (Err fault) other = Err (Number fault)

-- the time of a number of seconds since 1970 or of an ISO text
abbrev pub formless_time : List ℕ → Result TextTime TextFault
formless_time text = number_or (number_moment text) (told_time (iso_time_in text))

-- the time of a form, or why there is none
abbrev pub form_told : Result FormTime TimeFault → Result TextTime TextFault
form_told (Ok found) = Ok (Local found.time)
form_told (Err fault) = Err (Time fault)

-- the time of a text under forms, or, where none are named, of a number or of an ISO text
abbrev pub text_time : Option Forms → List ℕ → Result TextTime TextFault
text_time None text = formless_time text
text_time (Some forms) text = form_told (first_time (forms_of forms.text.now) 0 text)

-- the orders of a moment, if there is one
abbrev pub orders_at : Result Moment NumberFault → DayOrders
orders_at (Ok moment) = day_orders moment
orders_at (Err fault) = orders_by false

-- the orders in which a text is a day with hours
abbrev pub orders_in : List ℕ → DayOrders
orders_in text = orders_at (number_moment text)
