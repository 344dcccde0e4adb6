use Rattle.std.proofs.Common.{take, encode_utf8_all}
use Rattle.std.specs.List.{flat_map}
use Rattle.std.specs.Fmt.{HasWritten, IsPlainFormatter}
use Rattle.std.specs.Char.Escape.{escape_ascii}
use Rattle.range_texts.proofs.one_line.write_bytes.Given as goal

abbrev pub invariant-loop-byte : goal.invariant-loop-byte
invariant-loop-byte g l =
    IsPlainFormatter l.initial.f
    → HasWritten g.W.Write.write_str_gives l.initial.f (encode_utf8_all (flat_map escape_ascii (take l.byte-index l.fn.bytes))) l.f
