use Rattle.std.proofs.Common.{ℕ, List, subst}
use Rattle.std.specs.List.{AllZip}
use Rattle.range_stats.specs.Percent.{IsPercentRow}
use Rattle.range_analysis.proofs.measurement.percent_rows.Goals as goal

pub returns : goal.returns
returns c =
    let rows = c.in_ok-rows.ensures c.args.fixes.now.points c.in_ok-ranking.ensures in
    rw c.new-2.ensures (subst (λ (levels : List ℕ). AllZip (IsPercentRow c.args.fixes.now.points) levels c.in_ok-rows.rows.items)
    c.as_slice-levels.ensures.value rows)
