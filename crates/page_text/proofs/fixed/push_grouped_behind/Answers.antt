use Rattle.page_text.proofs.FigureFacts.{digit_on, digits_end}
use Rattle.page_text.proofs.fixed.push_grouped_behind.Goals as goal

pub loop-place-preserved : goal.loop-place-preserved
loop-place-preserved c =
    rw (c.in_ok-extend_from_slice.ensures.items, c.in_ok-push.ensures, c.comma_before.ensures)
    (digit_on c.loop-place.text.items c.args.digits.now _ c.loop-place.place c.loop-place-test.true c.loop-place.invariant)

pub returns : goal.returns
returns c = digits_end c.loop-place.text.items c.args.digits.now _ c.loop-place.place c.loop-place-test.false c.loop-place.invariant
