use Rattle.std.proofs.Common.{◌≡◌, ◌≤◌, ℕ, List, ◌++◌, encode_utf8_all}
use Rattle.std.specs.Fmt.{HasWritten, IsPlainFormatter}
use Rattle.std.specs.Char.Escape.{escape_default}
use Rattle.std.specs.Char.Iter.{escape_end, escape_rest}
use Rattle.range_texts.proofs.one_line.write_escaped.Given as goal

abbrev pub invariant-loop-escaped : goal.invariant-loop-escaped
invariant-loop-escaped g l =
    (escape_end l.rest ≤ 10)
    × (IsPlainFormatter l.fn.f
    → (done : List ℕ) × HasWritten g.W.Write.write_str_gives l.fn.f done l.f
    × (done ++ encode_utf8_all (escape_rest l.rest) ≡ encode_utf8_all (escape_default l.fn.character)))
