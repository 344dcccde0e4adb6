use Rattle.std.proofs.Common.{length, ap}
use Rattle.page_levels.proofs.Rows.{row_is}
use Rattle.page_levels.proofs.percents.is_row.Goals as goal

pub returns : goal.returns
returns c =
    row_is c.args.ranked.now c.args.row c.in_ok-polygon.polygon (length c.first_kept-kept.result.now) c.has_polygon.result
    (ap length c.first_kept-kept.ensures) c.in_ok-polygon.ensures c.has_polygon.ensures
