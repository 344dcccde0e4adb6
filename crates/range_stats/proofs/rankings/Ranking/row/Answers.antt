use Rattle.std.proofs.lemmas.Result.{IfOk-weaker}
use Rattle.range_plane.proofs.ForCallers.{corners_cover_the_set, covering_members_are_corners, larger_sets_cover_more, one_covers_itself}
use Rattle.range_stats.specs.Percent.{IsFirstRow, IsPercentRow}
use Rattle.range_stats.proofs.Firsts.{percent_row}
use Rattle.range_stats.proofs.rankings.Ranking.row.Goals as goal

pub returns-clause-row : goal.returns-clause-row
returns-clause-row g c = λ points levels ranking asked.
    let ranked = c.args.self.now in
    IfOk-weaker c.row_at.result (IsFirstRow ranked c.args.level) (IsPercentRow points c.args.level)
    (λ row first. percent_row larger_sets_cover_more one_covers_itself corners_cover_the_set
    covering_members_are_corners points levels ranked ranking c.args.level c.requires asked row first)
    c.row_at.ensures.row
