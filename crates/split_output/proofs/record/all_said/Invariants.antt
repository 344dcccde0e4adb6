use Rattle.std.proofs.Common.{◌≡◌, map, take}
use Rattle.split_export.specs.Export.{bytes_of}
use Rattle.split_output.proofs.record.all_said.Given as goal

abbrev pub invariant-loop-line : goal.invariant-loop-line
invariant-loop-line l = map (λ line. line.now) l.said.items ≡ bytes_of (take l.line-index l.lines)
