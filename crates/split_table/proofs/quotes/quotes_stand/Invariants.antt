use Rattle.split_table.proofs.QuotePlaces.{Seen}
use Rattle.split_table.proofs.quotes.quotes_stand.Given as goal

abbrev pub invariant-loop-place : goal.invariant-loop-place
invariant-loop-place l = Seen l.separator l.text l.is_open l.place-iterator
