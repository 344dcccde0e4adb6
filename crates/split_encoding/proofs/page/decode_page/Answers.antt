use Rattle.std.proofs.Common.{◌≡◌, ◌++◌, get_or, rules, sym, ap, ◌∙◌, arith}
use Rattle.std.proofs.lemmas.List.Elements.{All-more}
use Rattle.std.specs.Char.{encode_utf8}
use Rattle.std.specs.String.{string_bytes}
use Rattle.split_encoding.proofs.Texts.{encode_utf8_all_map_more}
use Rattle.split_encoding.specs.Pages.{HasCharacter, character_in}
use Rattle.split_encoding.proofs.page.decode_page.Goals as goal

pub loop-place-preserved : goal.loop-place-preserved
loop-place-preserved c =
    let bytes = c.args.bytes.now in
    let i = c.loop-place.place in
    let character = character_in c.args.page.now (get_or bytes i 0) in
    let pushed : string_bytes c.push.new.self ≡ string_bytes c.loop-place.text ++ encode_utf8 character = search rules in
    let text = pushed ∙ ap (λ text. text ++ encode_utf8 character) c.loop-place.invariant.0
    ∙ sym (encode_utf8_all_map_more (character_in c.args.page.now) bytes i 0 (omega arith)) in
    let has : HasCharacter c.args.page.now (get_or bytes i 0) = search rules in
    (text, All-more (HasCharacter c.args.page.now) bytes i 0 (omega arith) c.loop-place.invariant.1 has)
