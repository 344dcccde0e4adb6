use Rattle.std.proofs.Common.{◌*◌, refl}
use Rattle.range_report.specs.Parts.{part_lines, part_text, text_of}
use Rattle.range_report.proofs.PartCuts.{one_part_more}
use Rattle.range_report.proofs.parts.push_numbered.Goals as goal

pub loop-i-preserved : goal.loop-i-preserved
loop-i-preserved g c =
    one_part_more text_of (λ i. part_text c.args.lines (i * part_lines) c.args.animal.now) c.args.parts.now.items c.loop-i.parts.items c.push.new.self.items _
    c.loop-i.i
    c.in_ok-push.ensures.items refl c.loop-i.invariant
