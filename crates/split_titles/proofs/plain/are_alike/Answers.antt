use Rattle.std.proofs.Common.{◌∙◌, sym}
use Rattle.split_titles.specs.Plain.{plain_byte}
use Rattle.split_titles.proofs.Alike.{maps_of_paired, paired_of_maps}
use Rattle.split_titles.proofs.plain.are_alike.Goals as goal

pub returns-then-text-other : goal.returns-then-text-other
returns-then-text-other c =
    let text = c.args.text.now in
    let other = c.args.other.now in
    let found = c.are_paired.ensures in
    (λ same. maps_of_paired plain_byte text other c.if-text-other.true (sym found ∙ same), λ alike. found ∙ paired_of_maps plain_byte text other alike)
