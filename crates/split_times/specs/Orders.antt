-- Dates without signs between their parts, which are numbers too.
use Rattle.std.specs.Prelude.{ℕ, ◌/◌, ◌%◌, ◌==◌, nat_le, nat_lt, Bool, true, false, ◌&&◌, ◌||◌, if◌then◌else◌}
use Rattle.std.specs.Int.{is_in_range}
use Rattle.split_times.specs.declared.moment.Moment.{Moment}
use Rattle.split_times.specs.declared.orders.DayOrders.{DayOrders}
use Rattle.split_times.specs.declared.orders.Pairs.{Pairs}

-- the digits of a number of at most ten, in pairs
abbrev pub pairs_of : ℕ → Pairs
pairs_of number = record {
  first = number / 100_000_000 % 100;
  second = number / 1_000_000 % 100;
  third = number / 10_000 % 100;
  fourth = number / 100 % 100;
  fifth = number % 100;
}

-- whether years of the twentieth or the twenty-first century begin with these digits
abbrev pub is_century : ℕ → Bool
is_century pair = pair == 19 || pair == 20

-- whether a month has this number
abbrev pub is_month : ℕ → Bool
is_month pair = is_in_range 1 12 pair

-- whether a day of some month has this number
abbrev pub is_day : ℕ → Bool
is_day pair = is_in_range 1 31 pair

-- whether an hour has this number: some count them from 0 and some from 1
abbrev pub is_hour : ℕ → Bool
is_hour pair = nat_le pair 24

-- whether a minute or a second has this number
abbrev pub is_sixty : ℕ → Bool
is_sixty pair = nat_lt pair 60

-- whether the last four pairs are a year of four digits, a month and a day, or a day, a month and a year, or a month, a day and a
-- year; or the last three a year of two digits, a month and a day
abbrev pub is_date_of : ℕ → Pairs → Bool
is_date_of number pairs =
    if nat_lt number 100_000 || nat_le 100_000_000 number then false
    else if nat_lt number 1_000_000 then is_month pairs.fourth && is_day pairs.fifth
    else if is_century pairs.second && is_month pairs.fourth && is_day pairs.fifth then true
    else is_century pairs.fourth && (is_day pairs.second && is_month pairs.third || is_month pairs.second && is_day pairs.third)

-- whether a number is a date
abbrev pub is_date : ℕ → Bool
is_date number = is_date_of number (pairs_of number)

-- whether a month and a day stand first
abbrev pub is_month_day : Pairs → Bool
is_month_day pairs = is_month pairs.first && is_day pairs.second

-- whether a day and a month stand first
abbrev pub is_day_month : Pairs → Bool
is_day_month pairs = is_day pairs.first && is_month pairs.second

-- whether a year stands first and an hour last
abbrev pub is_year_first : Pairs → Bool
is_year_first pairs = is_century pairs.first && is_hour pairs.fifth

-- whether a year stands behind two pairs and an hour last
abbrev pub is_year_third : Pairs → Bool
is_year_third pairs = is_century pairs.third && is_hour pairs.fifth

-- whether an hour and a minute stand last
abbrev pub is_minute_last : Pairs → Bool
is_minute_last pairs = is_hour pairs.fourth && is_sixty pairs.fifth

-- whether an hour, a minute and a second stand last
abbrev pub is_second_last : Pairs → Bool
is_second_last pairs = is_hour pairs.third && is_sixty pairs.fourth && is_sixty pairs.fifth

-- the orders in which pairs of digits are a day with hours
abbrev pub orders_of : Pairs → DayOrders
orders_of pairs = record {
  year_month_day_hour = is_year_first pairs && is_month pairs.third && is_day pairs.fourth;
  year_day_month_hour = is_year_first pairs && is_day pairs.third && is_month pairs.fourth;
  day_month_year_hour = is_day_month pairs && is_year_third pairs;
  month_day_year_hour = is_month_day pairs && is_year_third pairs;
  short_year_month_day_hour_minute = is_month pairs.second && is_day pairs.third && is_minute_last pairs;
  day_month_short_year_hour_minute = is_day_month pairs && is_minute_last pairs;
  month_day_short_year_hour_minute = is_month_day pairs && is_minute_last pairs;
  month_day_hour_minute_second = is_month_day pairs && is_second_last pairs;
  day_month_hour_minute_second = is_day_month pairs && is_second_last pairs;
}

-- all orders, or none
abbrev pub orders_by : Bool → DayOrders
orders_by is_order = record {
  year_month_day_hour = is_order;
  year_day_month_hour = is_order;
  day_month_year_hour = is_order;
  month_day_year_hour = is_order;
  short_year_month_day_hour_minute = is_order;
  day_month_short_year_hour_minute = is_order;
  month_day_short_year_hour_minute = is_order;
  month_day_hour_minute_second = is_order;
  day_month_hour_minute_second = is_order;
}

-- the orders in which a number of seconds is a day with hours
abbrev pub day_orders : Moment → DayOrders
day_orders moment = if moment.nanosecond == 0 && nat_lt moment.second 10_000_000_000 then orders_of (pairs_of moment.second) else orders_by false

-- the orders that are of both
abbrev pub are_both : DayOrders → DayOrders → DayOrders
are_both a b = record {
  year_month_day_hour = a.year_month_day_hour && b.year_month_day_hour;
  year_day_month_hour = a.year_day_month_hour && b.year_day_month_hour;
  day_month_year_hour = a.day_month_year_hour && b.day_month_year_hour;
  month_day_year_hour = a.month_day_year_hour && b.month_day_year_hour;
  short_year_month_day_hour_minute = a.short_year_month_day_hour_minute && b.short_year_month_day_hour_minute;
  day_month_short_year_hour_minute = a.day_month_short_year_hour_minute && b.day_month_short_year_hour_minute;
  month_day_short_year_hour_minute = a.month_day_short_year_hour_minute && b.month_day_short_year_hour_minute;
  month_day_hour_minute_second = a.month_day_hour_minute_second && b.month_day_hour_minute_second;
  day_month_hour_minute_second = a.day_month_hour_minute_second && b.day_month_hour_minute_second;
}

-- whether there is an order
abbrev pub is_any : DayOrders → Bool
is_any orders = orders.year_month_day_hour || orders.year_day_month_hour || orders.day_month_year_hour || orders.month_day_year_hour || orders.short_year_month_day_hour_minute || orders.day_month_short_year_hour_minute || orders.month_day_short_year_hour_minute || orders.month_day_hour_minute_second || orders.day_month_hour_minute_second
