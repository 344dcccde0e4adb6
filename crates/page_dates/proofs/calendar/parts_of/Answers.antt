use Rattle.std.proofs.Common.{◌≡◌, ◌∙◌, rules, unsigned_abs}
use Rattle.page_dates.proofs.CalendarFacts.{same_day}
use Rattle.page_dates.proofs.calendar.parts_of.Goals as goal

pub returns : goal.returns
returns c =
    let same = same_day c.date_of-date.result c.args.day c.requires c.date_of-date.ensures in
    let year : c.unsigned_abs.result ≡ unsigned_abs c.date_of-date.result.year = search rules in
    λ i. ((c.from-year.ensures ∙ year ∙ same.0) i, (c.from.ensures ∙ same.1) i, (c.from-2.ensures ∙ same.2) i)
