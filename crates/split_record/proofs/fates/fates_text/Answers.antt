use Rattle.std.proofs.Common.{◌∙◌, append-nil, sym}
use Rattle.std.proofs.lemmas.List.{take_all}
use Rattle.split_record.specs.Fates.{fate_lines}
use Rattle.split_record.proofs.FateFacts.{one_more}
use Rattle.split_record.proofs.fates.fates_text.Goals as goal

pub loop-index-init : goal.loop-index-init
unfolding fate_lines
loop-index-init g c = rw c.new-text.ensures.items at c.in_ok-push_titles.ensures ∙ sym (append-nil _)

pub loop-index-preserved : goal.loop-index-preserved
loop-index-preserved g c = one_more _ c.args.fates.now c.loop-index.index _ _ _ c.loop-index-test.true c.loop-index.invariant c.in_ok-push_fate.ensures

pub returns : goal.returns
returns g c = rw (take_all c.loop-index.index c.args.fates.now c.loop-index-test.false) at c.loop-index.invariant
