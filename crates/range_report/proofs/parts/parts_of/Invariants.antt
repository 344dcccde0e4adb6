use Rattle.std.proofs.Common.{◌≡◌, take}
use Rattle.std.specs.List.{flat_map}
use Rattle.range_report.specs.Parts.{text_of}
use Rattle.range_report.specs.Report.{animal_text}
use Rattle.range_report.proofs.parts.parts_of.Given as goal

abbrev pub invariant-loop-animal : goal.invariant-loop-animal
invariant-loop-animal g l = flat_map text_of l.parts.items ≡ flat_map animal_text (take l.animal-index l.animals)
