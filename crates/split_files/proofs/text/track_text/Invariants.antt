use Rattle.std.proofs.Common.{◌≡◌, ◌++◌, take}
use Rattle.std.specs.List.{flat_map}
use Rattle.split_files.specs.TrackText.{line_of, title_line}
use Rattle.split_files.proofs.text.track_text.Given as goal

abbrev pub invariant-loop-one : goal.invariant-loop-one
invariant-loop-one g l = l.text.items ≡ title_line l.has_marks ++ flat_map (line_of l.has_marks l.name) (take l.one-index l.fixes)
