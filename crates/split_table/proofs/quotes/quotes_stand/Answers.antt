use Rattle.std.proofs.Common.{sym, ◌∙◌}
use Rattle.split_table.proofs.QuotePlaces.{Next, next, no_more, none_seen, one_more}
use Rattle.split_table.proofs.quotes.quotes_stand.Goals as goal
use Rattle.split_table.proofs.quotes.quotes_stand.Goals.{In-Some, then-is_open, else-is_open}

next_is : (c : In-Some) → Next c.args.separator c.args.text.now c.loop-place.is_open c.in-Some.place c.next.new.self
next_is c = next c.args.separator c.args.text.now c.loop-place.is_open c.in-Some.place c.loop-place.place-iterator c.next.new.self c.loop-place.invariant c.in-Some.ensures.steps

pub loop-place-init : goal.loop-place-init
loop-place-init c = rw (c.into_iter-place-iterator.ensures.into_iter_gives ∙ c.memchr_iter-place-items.ensures.value) (none_seen c.args.separator c.args.text.now)

pub may_end-stands-requires : goal.may_end-stands-requires
may_end-stands-requires c = (next_is (goal.at.may_end-stands-requires c).In-Some).within

pub may_begin-stands-requires : goal.may_begin-stands-requires
may_begin-stands-requires c = (next_is (goal.at.may_begin-stands-requires c).In-Some).within

pub loop-place-preserved : goal.loop-place-preserved
loop-place-preserved c =
    one_more c.args.separator c.args.text.now c.loop-place.is_open c.in-Some.place c.next.new.self (next_is (goal.at.loop-place-preserved c).In-Some) (elim c.if-is_open.branch [
      | then-is_open w ↦ rw w.if-is_open.true (w.may_end-stands.ensures (sym w.stands-is ∙ c.if-not-stands.false))
      | else-is_open w ↦ rw w.if-is_open.false (w.may_begin-stands.ensures (sym w.stands-is ∙ c.if-not-stands.false))
    ])

pub returns : goal.returns
returns c = no_more c.args.separator c.args.text.now c.loop-place.is_open c.loop-place.place-iterator c.loop-place.invariant c.in-None.ensures.steps.0
