use Rattle.std.proofs.Common.{rules}
use Rattle.range_analysis.proofs.overlap_rows.are_apart_by_easting.Goals as goal

pub returns-then-a-b : goal.returns-then-a-b
returns-then-a-b c = search rules
