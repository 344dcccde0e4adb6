use Rattle.std.proofs.Common.{◌≡◌, ◌++◌, map, take}
use Rattle.split_record.specs.Lines.{option_line, text_of_all}
use Rattle.split_record.proofs.text.push_options.Given as goal

abbrev pub invariant-loop-given : goal.invariant-loop-given
invariant-loop-given g l = l.text.items ≡ l.initial.text.items ++ text_of_all (map option_line (take l.given-index l.options))
