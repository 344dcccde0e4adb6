use Rattle.std.proofs.Common.{◌∙◌, []}
use Rattle.std.proofs.lemmas.Grind.{take_at_read}
use Rattle.split_join.proofs.JoinedFacts.{one_part_more}
use Rattle.split_join.proofs.check.pass_texts.Goals as goal

pub loop-text-preserved : goal.loop-text-preserved
loop-text-preserved c = record {
  parts = rw ((take_at_read c.args.texts.now c.loop-text.text (record { ref_ptr = (0, 0); now = [] }) c.loop-text-test.true).1, c.in_ok-push_count.ensures)
      (one_part_more _ _ _ _ _ _ _ c.loop-text.invariant.parts c.loop-text.invariant.titles c.in_ok-count.ensures.part);
  titles = c.pass_text.ensures.titles ∙ c.loop-text.invariant.titles;
}
