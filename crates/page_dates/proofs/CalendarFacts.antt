-- The day of a date is the one that is counted to.
use Rattle.std.proofs.Common.{◌≡◌, ℕ, zero, suc, ◌+◌, ◌*◌, ◌<◌, ◌≤◌, inl, inr, refl, sym, ap, ◌∙◌, arith, pos, ◌+ℤ◌, unsigned_abs}
use Rattle.std.proofs.lemmas.Bool.{cases_lt, lt-ltb, le-ltb}
use Rattle.jiff_core.specs.Calendar.{days_from_civil, days_in_month}
use Rattle.jiff_core.specs.Date.{epoch_day}
use Rattle.jiff_core.specs.declared.civil.date.Date.{Date}
use Rattle.jiff_core.proofs.SignedLemmas.{signed_arith}
use Rattle.jiff_core.proofs.CalendarLemmas.{days_in_month_bounds}
use Rattle.jiff_core.proofs.DateLemmas.{epoch_day_injective, days_from_civil-day, days_from_civil-next_month, days_from_civil-next_year}
use Rattle.page_dates.specs.Calendar.{day_after, next_day}
use Rattle.page_dates.specs.Laws.{DaysAreOfTheCalendar}

-- a date of the calendar from 1970 on, and its day; each month has 28 days at least, so the year is not too late
pub record IsDay (date : ℕ × ℕ × ℕ) (day : ℕ) : Type 0 where
  pub month_in : (1 ≤ date.1) × (date.1 ≤ 12)
  pub day_in : (1 ≤ date.2) × (date.2 ≤ days_in_month (pos date.0) date.1)
  pub early : 336 * date.0 + 28 * date.1 + date.2 ≤ day + 661_949
  pub is : days_from_civil (pos date.0) date.1 date.2 ≡ pos day

epoch : days_from_civil (pos 1970) 1 1 ≡ pos 0
unfolding days_from_civil
epoch = omega (arith, signed_arith)

module _ (year month day number : ℕ) (has : IsDay (year, month, day) number) where
  in_month : day < days_in_month (pos year) month → IsDay (next_day (year, month, day)) (number + 1)
  unfolding next_day
  in_month h =
      rw (lt-ltb _ _ h) (record {
        month_in = has.month_in;
        day_in = (omega arith, omega arith);
        early = omega (arith, has.early);
        is = omega (arith, signed_arith, has.is, days_from_civil-day (pos year) month (day + 1) day (omega arith) has.day_in.0);
      })

  in_year : days_in_month (pos year) month ≤ day → month < 12 → IsDay (next_day (year, month, day)) (number + 1)
  unfolding next_day
  in_year h k =
      let last : day ≡ days_in_month (pos year) month = omega (arith, h, has.day_in.1) in
      rw (le-ltb _ _ h, lt-ltb _ _ k) (record {
        month_in = (omega arith, omega (arith, k));
        day_in = (omega arith, omega (arith, days_in_month_bounds (pos year) (month + 1)));
        early = omega (arith, has.early, last, days_in_month_bounds (pos year) month);
        is = days_from_civil-next_month (pos year) month day has.month_in.0 last ∙ ap (λ n. n +ℤ pos 1) has.is ∙ omega (arith, signed_arith);
      })

  in_all : days_in_month (pos year) month ≤ day → 12 ≤ month → IsDay (next_day (year, month, day)) (number + 1)
  unfolding next_day
  in_all h k =
      let december : month ≡ 12 = omega (arith, k, has.month_in.1) in
      let whole : days_in_month (pos year) month ≡ 31 = rw december refl in
      let last : day ≡ 31 = omega (arith, h, has.day_in.1, whole) in
      let same : days_from_civil (pos year) 12 31 ≡ pos number = ap (λ m. days_from_civil (pos year) m 31) (sym december) ∙ ap (days_from_civil (pos year) month) (sym last) ∙ has.is in
      rw (le-ltb _ _ h, le-ltb _ _ k) (record {
        month_in = (omega arith, omega arith);
        day_in = (omega arith, omega (arith, days_in_month_bounds (pos (year + 1)) 1));
        early = omega (arith, has.early, last, december);
        is = days_from_civil-next_year (pos year) (pos (year + 1)) (omega (arith, signed_arith)) (omega (arith, signed_arith)) ∙ ap (λ n. n +ℤ pos 1) same ∙ omega (arith, signed_arith);
      })

  next_is_day : IsDay (next_day (year, month, day)) (number + 1)
  next_is_day = elim (cases_lt day (days_in_month (pos year) month)) [
    | inl h ↦ in_month h
    | inr h ↦ elim (cases_lt month 12) [ inl k ↦ in_year h k | inr k ↦ in_all h k ]
  ]

pub is_day : (day : ℕ) → IsDay (day_after day) day
unfolding day_after
is_day zero = record { month_in = (omega arith, omega arith); day_in = (omega arith, omega (arith, days_in_month_bounds (pos 1970) 1)); early = omega arith; is = epoch }
is_day (suc day) =
    let date = day_after day in
    let next : day + 1 ≡ suc day = omega arith in
    rw (← next) (next_is_day date.0 date.1 date.2 day (is_day day))

-- a date with the number of a day is the day that is counted to
pub same_day : (date : Date) (day : ℕ) → day < 200_000 → epoch_day date ≡ pos day
    → (unsigned_abs date.year ≡ (day_after day).0) × (date.month ≡ (day_after day).1) × (date.day ≡ (day_after day).2)
same_day date day within is =
    let own = day_after day in
    let has = is_day day in
    let counted : Date = record {
      year = pos own.0;
      month = own.1;
      day = own.2;
      year_in = omega (arith, signed_arith, has.early, within);
      month_in = has.month_in;
      day_in = has.day_in;
    } in
    let same = epoch_day_injective date counted (is ∙ sym has.is) in
    (ap unsigned_abs same.0, same.1, same.2)

pub calendar : DaysAreOfTheCalendar
calendar day =
    let own = is_day day in
    (own.month_in.0, own.month_in.1, own.day_in.0, own.day_in.1, own.is)
