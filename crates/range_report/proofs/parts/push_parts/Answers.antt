use Rattle.std.proofs.Common.{◌≡◌, ℕ, ◌++◌, ◌*◌, List, length}
use Rattle.std.specs.List.{flat_map, range_with_len}
use Rattle.range_analysis.specs.declared.animal.Animal.{Animal}
use Rattle.range_report.specs.declared.parts.Lines.{Lines}
use Rattle.range_report.specs.declared.parts.Lines.TheVariants.{Corners, Rows}
use Rattle.range_report.specs.Parts.{part_count, part_lines, part_text, text_of}
use Rattle.range_report.specs.Report.{animal_text, corner_line, row_line}
use Rattle.range_report.proofs.PartCuts.{four_texts, numbered_cut}
use Rattle.range_report.proofs.parts.push_parts.Goals as goal

-- the parts of so many rows or corners
abbrev texts : Animal → Lines → ℕ → List ℕ
texts animal lines count = flat_map (λ i. part_text lines (i * part_lines) animal) (range_with_len 0 (part_count count))

pub returns : goal.returns
unfolding animal_text
returns g c =
    let animal = c.args.animal.now in
    let rows : flat_map text_of c.push_numbered.new.parts.items ≡ flat_map text_of c.push.new.self.items ++ texts animal Rows (length animal.rows) =
    rw (c.as_slice.ensures) at c.in_ok-push_numbered.ensures in
    let corners : flat_map text_of c.push_numbered-2.new.parts.items ≡ flat_map text_of c.push_numbered.new.parts.items ++ texts animal Corners
    (length animal.polygon) = rw (c.corners-corners.ensures.value) at c.in_ok-push_numbered-2.ensures in
    four_texts text_of c.args.parts.now.items c.push.new.self.items c.push_numbered.new.parts.items c.push_numbered-2.new.parts.items
    c.push-2.new.self.items _ _ _ _ _ _ c.in_ok-push.ensures.items
    rows (numbered_cut (row_line animal.name) animal.rows) corners (numbered_cut (corner_line animal.name) animal.polygon) c.in_ok-push-2.ensures.items
