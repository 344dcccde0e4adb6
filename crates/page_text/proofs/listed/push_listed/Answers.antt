use Rattle.page_text.proofs.FigureFacts.{word_on, words_end}
use Rattle.page_text.proofs.listed.push_listed.Goals as goal

pub loop-place-preserved : goal.loop-place-preserved
loop-place-preserved c =
    rw (c.in_ok-push.ensures, c.in_ok-extend_from_slice.ensures.items, c.between.ensures)
    (word_on c.loop-place.text.items _ c.args.words.now c.loop-place.place c.loop-place-test.true c.loop-place.invariant)

pub returns : goal.returns
returns c = words_end c.loop-place.text.items _ c.args.words.now c.loop-place.place c.loop-place-test.false c.loop-place.invariant
