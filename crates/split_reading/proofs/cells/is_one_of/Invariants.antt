use Rattle.std.proofs.Common.{◌≡◌, false, take}
use Rattle.split_reading.specs.Cells.{is_one_of}
use Rattle.split_reading.proofs.cells.is_one_of.Given as goal

abbrev pub invariant-loop-word : goal.invariant-loop-word
invariant-loop-word l = is_one_of l.has_commas (take l.word-index l.words) l.text ≡ false
