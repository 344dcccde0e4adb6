-- So far the text has the characters of the bytes that were passed.
use Rattle.std.proofs.Common.{◌≡◌, encode_utf8_all, take}
use Rattle.std.specs.String.{string_bytes}
use Rattle.split_encoding.proofs.page.decode_latin_1.Given as goal

abbrev pub invariant-loop-byte : goal.invariant-loop-byte
invariant-loop-byte l = string_bytes l.text ≡ encode_utf8_all (take l.byte-index l.bytes)
