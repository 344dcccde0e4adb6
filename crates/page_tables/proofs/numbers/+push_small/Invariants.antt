use Rattle.page_tables.proofs.numbers.+push_small.Given as goal

abbrev pub decreases-push_small : goal.decreases-push_small
decreases-push_small l = l.places
