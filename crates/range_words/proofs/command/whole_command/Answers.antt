use Rattle.std.proofs.Common.{◌∙◌, ap₂}
use Rattle.std.proofs.lemmas.Result.{IfOk-weaker}
use Rattle.clap.specs.Words.{with_rule}
use Rattle.range_words.proofs.command.whole_command.Goals as goal

pub returns : goal.returns
returns c =
    let percent = c.in_ok-arg.ensures.shape c.text_option.ensures.local ∙ ap₂ with_rule c.program.ensures c.text_option.ensures.rule in
    let block = c.in_ok-arg-2.ensures.shape c.number_option.ensures.local ∙ ap₂ with_rule percent c.number_option.ensures.rule in
    let depth = c.in_ok-arg-3.ensures.shape c.number_option-2.ensures.local ∙ ap₂ with_rule block c.number_option-2.ensures.rule in
    let workers = c.in_ok-arg-4.ensures.shape c.number_option-3.ensures.local ∙ ap₂ with_rule depth c.number_option-3.ensures.rule in
    let unit = c.in_ok-arg-5.ensures.shape c.text_option-2.ensures.local ∙ ap₂ with_rule workers c.text_option-2.ensures.rule in
    IfOk-weaker c.arg-6.result _ _ (λ cmd h. h.shape c.files_argument.ensures.local ∙ ap₂ with_rule unit c.files_argument.ensures.rule) c.arg-6.ensures
