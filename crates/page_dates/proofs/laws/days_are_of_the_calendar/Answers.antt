use Rattle.page_dates.proofs.CalendarFacts.{calendar}
use Rattle.page_dates.proofs.laws.days_are_of_the_calendar.Goals as goal

pub returns : goal.returns
returns c = calendar
