use Rattle.std.proofs.Common.{◌≡◌, ◌++◌, flat_map, take}
use Rattle.page_text.specs.Cells.{quoted_byte}
use Rattle.page_text.proofs.cells.push_quoted.Given as goal

abbrev pub invariant-loop-byte : goal.invariant-loop-byte
invariant-loop-byte l = l.text.items ≡ l.initial.text.items ++ flat_map quoted_byte (take l.byte-index l.value)
