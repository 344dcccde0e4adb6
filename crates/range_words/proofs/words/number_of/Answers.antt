use Rattle.std.proofs.Common.{◌∙◌, ap, rules, ◌<◌, ◌^◌}
use Rattle.std.specs.Option.{option_map_or}
use Rattle.std.specs.Str.Parse.{ParsesUnsigned, ExplainsUnsignedError, HasUnsignedDigitsIfOk, digits_value, without_leading_plus}
use Rattle.clap.specs.Words.{one_text, found_of}
use Rattle.clap.proofs.WalkLemmas.{one_text-rows}
use Rattle.range_words.proofs.Values.{number_is}
use Rattle.range_words.proofs.words.number_of.Goals as goal

pub returns-clause-value : goal.returns-clause-value
returns-clause-value c =
    let f = found_of c.args.matches.now in
    let name = c.args.name.now in
    let small : c.args.limit < 2 ^ 32 = search rules in
    let read = number_is (λ bs r. ParsesUnsigned 32 10 bs r × ExplainsUnsignedError 10 bs r × HasUnsignedDigitsIfOk bs r) c.args.limit
    (one_text f name) c.get_one.result c.args.default small
    (λ u x g. g.0) c.get_one.ensures.none c.get_one.ensures.value c.requires.passed in
    c.unwrap_or.ensures ∙ read ∙ ap (λ o. option_map_or (λ text. digits_value 10 (without_leading_plus text)) o c.args.default) (one_text-rows f name)
