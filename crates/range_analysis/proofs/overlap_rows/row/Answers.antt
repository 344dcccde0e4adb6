use Rattle.range_analysis.proofs.Rows.{row_is}
use Rattle.range_analysis.proofs.overlap_rows.row.Goals as goal

pub returns : goal.returns
returns c =
    row_is c.args.measured.now c.args.pair.0 c.args.pair.1 _ _ c.index-measured-animal.result c.index-measured-range.result c.requires.pair.0 c.requires.pair.1
    c.index-measured-animal.is c.index-measured-range.is c.count_in.ensures c.len.ensures
