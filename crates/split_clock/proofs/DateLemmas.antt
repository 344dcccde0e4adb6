-- The date and the time of a second are those that the calendar counts.
use Rattle.std.proofs.Common.{◌≡◌, ℕ, zero, suc, ◌+◌, ◌*◌, ◌/◌, ◌%◌, ◌<◌, ◌≤◌, Bool, true, false, IsTrue, inl, inr, refl, sym, ap, ◌∙◌, arith, ℤ, pos, ◌+ℤ◌, ◌<ℤ◌, unsigned_abs}
use Rattle.std.proofs.Props.{props}
use Rattle.std.specs.Int.{IsInRange}
use Rattle.std.proofs.lemmas.Int.{by_lt_z}
use mathlib.Core.HLevel.{is_prop→PathP}
use Rattle.std.proofs.lemmas.Bool.{cases_lt, lt-ltb, le-ltb, true≢false}
use Rattle.jiff_core.specs.Calendar.{IsCivilDate, IsYear, days_from_civil, days_in_month}
use Rattle.jiff_core.specs.Date.{epoch_day, month_length}
use Rattle.jiff_core.specs.DateTime.{civil_nanos}
use Rattle.jiff_core.specs.Time.{time_nanos}
use Rattle.jiff_core.specs.Timestamp.{nanos_of_seconds}
use Rattle.jiff_core.specs.declared.civil.date.Date.{Date}
use Rattle.jiff_core.specs.declared.civil.datetime.DateTime.{DateTime}
use Rattle.jiff_core.specs.declared.civil.time.Time.{Time}
use Rattle.jiff_core.proofs.SignedLemmas.{one_part, signed_arith}
use Rattle.jiff_core.proofs.CalendarLemmas.{days_in_month_bounds}
use Rattle.jiff_core.proofs.DateLemmas.{epoch_day_injective, days_from_civil-day, days_from_civil-next_month, days_from_civil-next_year, days_from_civil-min, days_from_civil-max}
use Rattle.jiff_core.proofs.DateTimeLemmas.{civil_nanos-parts, civil_nanos_injective, time_nanos_injective}
use Rattle.split_times.specs.Limits.{IsLocalSecond}
use Rattle.split_clock.specs.Dates.{clock_after, date_after, date_if, date_of, first_date, has_date, is_date, next_date, time_after, time_of}

is_date-from : (year : ℤ) (month day : ℕ) → IsCivilDate year month day → is_date year month day ≡ true
is_date-from year month day h = grind (arith, signed_arith)

abbrev HasParts : ℤ → ℕ → ℕ → Date → Type 0
HasParts year month day date = (date.year ≡ year) × (date.month ≡ month) × (date.day ≡ day)

date_if-parts : (year : ℤ) (month day : ℕ) (has : Bool) (within : IsTrue has → IsCivilDate year month day) → IsTrue has → HasParts year month day (date_if year month day has within)
date_if-parts year month day true within h = (refl, refl, refl)
date_if-parts year month day false within h = absurd (true≢false (sym h))

-- a date that there is has the number of its day
date_of-day : (year : ℤ) (month day : ℕ) → IsCivilDate year month day → epoch_day (date_of year month day) ≡ days_from_civil year month day
unfolding date_of
date_of-day year month day h =
    let parts = date_if-parts year month day (is_date year month day) (has_date year month day) (is_date-from year month day h) in
    rw (parts.0, parts.1, parts.2)

module _ (date : Date) where
  next_in_month : date.day < month_length date → epoch_day (next_date date) ≡ epoch_day date +ℤ pos 1
  unfolding next_date
  next_in_month h =
      rw (lt-ltb _ _ h) (date_of-day date.year date.month (date.day + 1) (date.year_in, date.month_in, omega arith)
      ∙ omega (arith, signed_arith, days_from_civil-day date.year date.month (date.day + 1) date.day (omega arith) date.day_in.0))

  next_in_year : month_length date ≤ date.day → date.month < 12 → epoch_day (next_date date) ≡ epoch_day date +ℤ pos 1
  unfolding next_date
  next_in_year h k =
      rw (le-ltb _ _ h, lt-ltb _ _ k) (date_of-day date.year (date.month + 1) 1 (date.year_in, omega arith, omega (arith, days_in_month_bounds date.year (date.month + 1)))
      ∙ days_from_civil-next_month date.year date.month date.day date.month_in.0 (omega arith))

  -- 31 December of a year before the last
  is_last : month_length date ≤ date.day → 12 ≤ date.month → (date.month ≡ 12) × (date.day ≡ 31)
  is_last h k =
      let december : date.month ≡ 12 = omega arith in
      let whole : month_length date ≡ 31 = rw december refl in
      (december, omega arith)

  next_in_all : month_length date ≤ date.day → 12 ≤ date.month → epoch_day date <ℤ pos 2_932_896 → epoch_day (next_date date) ≡ epoch_day date +ℤ pos 1
  unfolding next_date
  next_in_all h k before =
      let last = is_last h k in
      let same : epoch_day date ≡ days_from_civil date.year 12 31 = rw (last.0, last.1) in
      let more : date.year <ℤ pos 9999 = by_lt_z date.year (pos 9999) (λ lt. lt)
      (λ ge. let year : date.year ≡ pos 9999 = omega (arith, signed_arith) in absurd (omega (arith, signed_arith, rw year at (rw same at before), days_from_civil-max))) in
      rw (le-ltb _ _ h, le-ltb _ _ k) (date_of-day (date.year +ℤ pos 1) 1 1 (omega (arith, signed_arith), omega arith, omega (arith, days_in_month_bounds (date.year +ℤ pos 1) 1))
      ∙ (days_from_civil-next_year date.year (date.year +ℤ pos 1) (omega (arith, signed_arith)) refl ∙ ap (λ day. day +ℤ pos 1) (sym same)))

  -- the date after another is a day later
  next_date-day : epoch_day date <ℤ pos 2_932_896 → epoch_day (next_date date) ≡ epoch_day date +ℤ pos 1
  next_date-day before = elim (cases_lt date.day (month_length date)) [
    | inl h ↦ next_in_month h
    | inr h ↦ elim (cases_lt date.month 12) [ inl k ↦ next_in_year h k | inr k ↦ next_in_all h k before ]
  ]

-- the date so many days after the first is as many days after it
pub date_after-day : (days : ℕ) → days ≤ 7_304_483 → epoch_day (date_after days) +ℤ pos 4_371_587 ≡ pos days
unfolding date_after first_date
date_after-day zero h = omega (arith, signed_arith, days_from_civil-min)
date_after-day (suc days) h =
    let before = date_after-day days (omega arith) in
    omega (arith, signed_arith, next_date-day (date_after days) (omega (arith, signed_arith)))

clock_after-nanos : (seconds : ℕ) → seconds < 86_400 → time_nanos (clock_after seconds) ≡ seconds * 1_000_000_000
unfolding clock_after
clock_after-nanos seconds h = omega arith

time_after-nanos : (seconds : ℕ) → seconds ≤ 631_107_417_599 → civil_nanos (time_after seconds) +ℤ pos 377_705_116_800_000_000_000 ≡ pos (seconds * 1_000_000_000)
unfolding time_after
time_after-nanos seconds h =
    omega (arith, signed_arith, civil_nanos-parts (time_after seconds), date_after-day (seconds / 86_400) (omega arith), clock_after-nanos (seconds % 86_400) (omega arith))

-- the date and the time of a second are as many nanoseconds after 1970 as the second
time_of-nanos : (local : ℤ) → IsLocalSecond local → civil_nanos (time_of local) ≡ nanos_of_seconds local
unfolding time_of
time_of-nanos local h =
    let later = local +ℤ pos 377_705_116_800 in
    omega (arith, signed_arith, one_part later, time_after-nanos (unsigned_abs later) (omega (arith, signed_arith, one_part later)))

same_date : (a b : Date) → epoch_day a ≡ epoch_day b → a ≡ b
same_date a b e =
    let p = epoch_day_injective a b e in
    λ i. record {
      year = p.0 i;
      month = p.1 i;
      day = p.2 i;
      year_in = is_prop→PathP (λ j. IsYear (p.0 j)) (λ j. hlevel props) a.year_in b.year_in i;
      month_in = is_prop→PathP (λ j. IsInRange 1 12 (p.1 j)) (λ j. hlevel props) a.month_in b.month_in i;
      day_in = is_prop→PathP (λ j. IsInRange 1 (days_in_month (p.0 j) (p.1 j)) (p.2 j)) (λ j. hlevel props) a.day_in b.day_in i;
    }

same_time : (a b : Time) → time_nanos a ≡ time_nanos b → a ≡ b
same_time a b e =
    let p = time_nanos_injective a b e in
    λ i. record {
      hour = p.0 i;
      minute = p.1 i;
      second = p.2 i;
      subsec_nanosecond = p.3 i;
      hour_in = is_prop→PathP (λ j. p.0 j < 24) (λ j. hlevel props) a.hour_in b.hour_in i;
      minute_in = is_prop→PathP (λ j. p.1 j < 60) (λ j. hlevel props) a.minute_in b.minute_in i;
      second_in = is_prop→PathP (λ j. p.2 j < 60) (λ j. hlevel props) a.second_in b.second_in i;
      subsec_in = is_prop→PathP (λ j. p.3 j < 1_000_000_000) (λ j. hlevel props) a.subsec_in b.subsec_in i;
    }

-- a date and a time that are so many nanoseconds after 1970 are those of the second
pub is_time_of : (local : ℤ) (time : DateTime) → IsLocalSecond local → civil_nanos time ≡ nanos_of_seconds local → time ≡ time_of local
is_time_of local time within e =
    let p = civil_nanos_injective time (time_of local) (e ∙ sym (time_of-nanos local within)) in
    λ i. record { date = same_date time.date (time_of local).date p.0 i; time = same_time time.time (time_of local).time p.1 i }
