use Rattle.std.proofs.Common.{◌≡◌, ◌++◌, map, take}
use Rattle.split_record.specs.Lines.{track_line, text_of_all}
use Rattle.split_record.proofs.text.push_tracks.Given as goal

abbrev pub invariant-loop-track : goal.invariant-loop-track
invariant-loop-track g l = l.text.items ≡ l.initial.text.items ++ text_of_all (map track_line (take l.track-index l.tracks))
