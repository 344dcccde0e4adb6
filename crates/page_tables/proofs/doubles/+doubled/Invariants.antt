use Rattle.page_tables.proofs.doubles.+doubled.Given as goal

abbrev pub decreases-doubled : goal.decreases-doubled
decreases-doubled l = l.more
