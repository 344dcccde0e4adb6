use Rattle.std.proofs.Common.{◌∙◌, ◌++◌, ap}
use Rattle.std.proofs.lemmas.Grind.{flat_map-append}
use Rattle.split_record.specs.Lines.{lines_of_exports, text_of_line}
use Rattle.split_record.proofs.Joined.{head_joined}
use Rattle.split_record.proofs.text.push_head.Goals as goal

pub returns : goal.returns
returns g c =
    let told = c.args.record.now in
    let exports = lines_of_exports told.exports.now in
    rw (flat_map-append text_of_line exports _)
    (head_joined c.args.text.now.items _ _ _ _ _ _ _ exports c.in_ok-push_exports.ensures c.in_ok-push_unit.ensures c.in_ok-push_zone.ensures c.in_ok-push_shift.ensures)
