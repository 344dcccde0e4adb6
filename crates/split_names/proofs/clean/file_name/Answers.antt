use Rattle.std.proofs.Common.{ap, ◌∙◌}
use Rattle.split_names.specs.Clean.{clean, no_device, plain_at_end, plain_at_start}
use Rattle.split_names.specs.Cut.{cut}
use Rattle.split_names.proofs.clean.file_name.Goals as goal

pub returns : goal.returns
unfolding clean
returns g c =
    c.plain_at_end.ensures
    ∙ ap plain_at_end (c.cut.ensures
    ∙ ap (cut 32) (c.in_ok-no_device.ensures
    ∙ ap no_device (c.plain_at_start.ensures ∙ ap plain_at_start c.in_ok-own.ensures)))
