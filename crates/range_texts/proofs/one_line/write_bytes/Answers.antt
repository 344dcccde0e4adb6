use Rattle.std.proofs.Common.{◌≡◌, [], ◌+◌, ◌++◌, take, get_or, flat_map, encode_utf8_all, sym, ap, ◌∙◌, arith, rules}
use Rattle.std.proofs.Output.{has_written_append, has_written_of_eq}
use Rattle.std.proofs.lemmas.Str.{encodes-append}
use Rattle.std.proofs.lemmas.List.{flat_map_more, take_more}
use Rattle.std.specs.Char.Escape.{escape_ascii}
use Rattle.range_texts.proofs.one_line.write_bytes.Goals as goal

pub loop-byte-preserved : goal.loop-byte-preserved
loop-byte-preserved g c plain =
    let bytes = c.args.bytes.now in
    let i = c.loop-byte.byte-index in
    let byte = get_or bytes i 0 in
    let so_far = c.loop-byte.invariant plain in
    let more : flat_map escape_ascii (take (i + 1) bytes) ≡ flat_map escape_ascii (take i bytes) ++ escape_ascii byte =
    ap (flat_map escape_ascii) (take_more bytes i 0 (omega arith)) ∙ sym (flat_map_more escape_ascii [] (take i bytes) byte) in
    let text = sym (encodes-append (flat_map escape_ascii (take i bytes)) (escape_ascii byte)) ∙ ap encode_utf8_all (sym more) in
    has_written_of_eq _ _ _ _ _ text (has_written_append _ _ _ _ _ _ so_far (search rules))
