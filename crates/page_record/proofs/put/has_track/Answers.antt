use Rattle.std.proofs.Common.{◌∙◌}
use Rattle.page_record.proofs.Tracks.{found_any}
use Rattle.page_record.proofs.put.has_track.Goals as goal

pub returns : goal.returns
returns c = c.contains_key.ensures ∙ found_any c.args.name.now c.args.tracks.now.entries
