use Rattle.std.proofs.Common.{◌≡◌, ◌++◌, get_or, rules, sym, ap, ◌∙◌, arith}
use Rattle.std.specs.Char.{encode_utf8}
use Rattle.std.specs.String.{string_bytes}
use Rattle.split_encoding.proofs.Texts.{encode_utf8_all_more}
use Rattle.split_encoding.proofs.page.decode_latin_1.Goals as goal

-- src/page.rt:59:5
pub loop-byte-preserved : goal.loop-byte-preserved
loop-byte-preserved c =
    let bytes = c.args.bytes.now in
    let i = c.loop-byte.byte-index in
    let byte = get_or bytes i 0 in
    let pushed : string_bytes c.push.new.self ≡ string_bytes c.loop-byte.text ++ encode_utf8 byte = search rules in
    pushed ∙ ap (λ text. text ++ encode_utf8 byte) c.loop-byte.invariant ∙ sym (encode_utf8_all_more bytes i 0 (omega arith))
