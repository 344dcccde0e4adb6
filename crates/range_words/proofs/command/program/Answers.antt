use Rattle.std.proofs.Common.{◌∙◌, ap}
use Rattle.std.specs.Prelude.{true}
use Rattle.clap.specs.Simple.{app_of_fields, on_top}
use Rattle.range_words.proofs.command.program.Goals as goal

pub returns : goal.returns
returns c =
    ap app_of_fields c.version.ensures ∙ ap (on_top (λ top. record top { has_version = true })) c.new.ensures.app
