use Rattle.std.proofs.Common.{◌≡◌, chars, encode_utf8_all, sym, ap, ◌∙◌}
use Rattle.std.proofs.lemmas.Str.{chars_from_encodes}
use Rattle.caseless.specs.Caseless.{default_case_fold}
use Rattle.unicode_normalization.specs.Forms.{nfd}
use Rattle.split_names.proofs.folded.folded_text.Goals as goal

pub returns : goal.returns
returns c =
    let parts = c.as_str.ensures.value ∙ c.in_ok-parts.ensures in
    let parted : nfd (chars c.args.text.now) ≡ chars c.as_str.result.now = chars_from_encodes _ _ c.as_str.utf8 (sym parts) in
    let small = c.as_str-2.ensures.value ∙ c.in_ok-small.ensures in
    let lowered : default_case_fold (chars c.as_str.result.now) ≡ chars c.as_str-2.result.now = chars_from_encodes _ _ c.as_str-2.utf8 (sym small) in
    c.in_ok-to_nfd.ensures ∙ ap (λ signs. encode_utf8_all (nfd signs)) (sym lowered ∙ ap default_case_fold (sym parted))
