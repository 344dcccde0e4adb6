use Rattle.std.proofs.Common.{◌∙◌}
use Rattle.page_record.proofs.Tracks.{found_made}
use Rattle.page_record.proofs.counts.track_of.Goals as goal

pub returns : goal.returns
returns c = c.copied.ensures ∙ c.get.ensures.value ∙ found_made c.args.animal.now c.args.own.now.tracks.entries
