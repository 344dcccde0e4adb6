use Rattle.std.proofs.Common.{◌∙◌, ap, map}
use Rattle.page_record.specs.Reading.{track_seen}
use Rattle.page_record.proofs.Tracks.{new_last}
use Rattle.page_record.proofs.put.push_track.Goals as goal

pub returns-in-Ok-clause-tracks : goal.returns-in-Ok-clause-tracks
returns-in-Ok-clause-tracks c = ap (map track_seen) c.in-Ok.ensures.entries ∙ new_last c.args.name c.args.made c.args.tracks.now.entries c.requires
