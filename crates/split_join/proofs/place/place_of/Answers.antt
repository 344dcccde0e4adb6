use Rattle.std.proofs.Common.{◌∙◌, sym, arith}
use Rattle.split_join.proofs.PlaceFacts.{here, nowhere, onward}
use Rattle.split_join.proofs.place.place_of.Goals as goal

pub returns-then-left-count : goal.returns-then-left-count
returns-then-left-count c = sym (c.loop-text.invariant ∙ here _ _ _ c.loop-text-test.true c.if-left-count.true)

pub loop-text-preserved : goal.loop-text-preserved
loop-text-preserved c = c.loop-text.invariant ∙ onward _ _ _ c.loop-text-test.true (omega (arith, c.if-left-count.false))

pub returns : goal.returns
returns c = sym (c.loop-text.invariant ∙ nowhere _ _ _ (omega (arith, c.loop-text-test.false, c.loop-text.auto.text-end)))
