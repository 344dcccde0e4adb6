use Rattle.std.proofs.Common.{◌≡◌, [], ◌∷◌, ◌++◌, flat_map, encode_utf8_all, sym, ap, ◌∙◌, append_assoc, append-nil, refl, rules}
use Rattle.std.proofs.Output.{has_written_append, has_written_of_eq}
use Rattle.std.proofs.lemmas.Str.{chars-nil, chars_past_char, encodes-append, IsUtf8-past_char}
use Rattle.std.proofs.lemmas.List.{nil_from_length}
use Rattle.std.specs.Str.{chars}
use Rattle.std.specs.Str.Iter.{chars_rest}
use Rattle.range_texts.specs.Seen.{shown_text, shown_char}
use Rattle.range_texts.proofs.one_line.OneLineDisplay.fmt.Goals as goal

pub loop-character-preserved : goal.loop-character-preserved
loop-character-preserved g c =
    let doubles = c.args.self.now.doubles in
    let before = chars_rest c.loop-character.rest in
    let after = chars_rest c.next.new.self in
    let ch = c.in-Some.character in
    let step = c.in-Some.ensures.steps.0 in
    let utf8 = c.loop-character.invariant.0 in
    let next : chars before ≡ ch ∷ chars after = chars_past_char before after ch utf8 step in
    let here : shown_text doubles before ≡ encode_utf8_all (shown_char doubles ch) ++ shown_text doubles after =
    ap (λ cs. encode_utf8_all (flat_map (shown_char doubles) cs)) next ∙ encodes-append (shown_char doubles ch) (flat_map (shown_char doubles) (chars after)) in (
      IsUtf8-past_char before after ch utf8 step,
      λ plain.
          let now = c.loop-character.invariant.1 plain in
          let text = encode_utf8_all (shown_char doubles ch) in (
            now.0 ++ text,
            has_written_append _ _ _ _ _ _ now.1 (search rules),
            append_assoc now.0 text (shown_text doubles after) ∙ ap (λ l. now.0 ++ l) (sym here) ∙ now.2,
          ),
    )

pub returns-clause-writes : goal.returns-clause-writes
returns-clause-writes g c plain ok =
    let now = c.loop-character.invariant.1 plain in
    let ended : chars_rest c.loop-character.rest ≡ [] = nil_from_length _ c.in_default.ensures.steps.0.0 in
    let none : shown_text c.args.self.now.doubles (chars_rest c.loop-character.rest) ≡ [] =
    rw (ended, chars-nil) refl in
    has_written_of_eq _ _ _ _ _ (sym (append-nil now.0) ∙ ap (λ l. now.0 ++ l) (sym none) ∙ now.2) now.1
