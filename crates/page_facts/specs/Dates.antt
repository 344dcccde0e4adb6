-- Whether the seconds of a report are dates.
use Rattle.std.specs.Prelude.{Bool, ◌&&◌, nat_le, nat_lt}
use Rattle.std.specs.List.{list_all}
use Rattle.range_estimator.specs.declared.row.Row.{Row}
use Rattle.page_report.specs.Reading.{Read, Said}
use Rattle.page_facts.specs.declared.dates.TheConstants.{FIRST_DATE, END_OF_DATES}

abbrev pub is_date : Row → Bool
is_date row = nat_le FIRST_DATE row.second && nat_lt row.second END_OF_DATES

-- whether all of an animal are, and all of a report
abbrev pub has_dates : Said → Bool
has_dates animal = list_all is_date animal.rows

abbrev pub are_dates : Read → Bool
are_dates report = list_all has_dates report.animals
