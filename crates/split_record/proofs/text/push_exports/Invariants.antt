use Rattle.std.proofs.Common.{◌≡◌, ◌++◌, take}
use Rattle.split_record.specs.Lines.{lines_of_exports, text_of_all}
use Rattle.split_record.proofs.text.push_exports.Given as goal

abbrev pub invariant-loop-export : goal.invariant-loop-export
invariant-loop-export g l = l.text.items ≡ l.initial.text.items ++ text_of_all (lines_of_exports (take l.export-index l.exports))
