use Rattle.std.proofs.Common.{◌∙◌, ap}
use Rattle.clap.specs.Words.{found_of}
use Rattle.clap.proofs.WalkLemmas.{first_value-rows}
use Rattle.range_words.proofs.Values.{text_or}
use Rattle.range_words.proofs.words.text_of.Goals as goal

pub returns : goal.returns
returns c =
    let f = found_of c.args.matches.now in
    ap (λ s. s.now) c.unwrap_or.ensures ∙ text_or c.get_str.result _ _ (c.get_str.ensures ∙ first_value-rows f c.args.name.now)
