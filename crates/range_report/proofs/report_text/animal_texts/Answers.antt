use Rattle.std.proofs.Common.{◌∙◌, ap}
use Rattle.std.specs.List.{flat_map}
use Rattle.std.proofs.lemmas.Result.{IfOk-weaker}
use Rattle.range_report.specs.Parts.{text_of}
use Rattle.range_report.proofs.Texts.{texts_of_parts}
use Rattle.range_report.proofs.report_text.animal_texts.Goals as goal

pub returns : goal.returns
returns g c =
    IfOk-weaker c.part_texts.result _ _ (λ texts each. texts_of_parts (λ text. text.items) text_of _ texts.items each
    ∙ ap (flat_map text_of) c.deref.ensures.value ∙ c.in_ok-parts.ensures) c.part_texts.ensures
