use Rattle.split_record.specs.Lines.{head_lines}
use Rattle.split_record.proofs.Joined.{all_joined}
use Rattle.split_record.proofs.text.record_text.Goals as goal

pub returns : goal.returns
returns g c =
    all_joined _ _ _ _ _ _ _ (head_lines c.args.record.now) _ _ _ _ _ c.new-text.ensures.items c.in_ok-push_head.ensures c.in_ok-push_options.ensures c.in_ok-push_all_said.ensures
    c.in_ok-push_all_left.ensures c.in_ok-push_tracks.ensures c.in_ok-push_tool.ensures
