use Rattle.std.proofs.Common.{◌≡◌, ◌∷◌, [], IfOk, refl, subst, arith}
use Rattle.range_stats.specs.Percent.{kept_count}
use Rattle.range_stats.proofs.percents.percent.Goals as goal

pub returns-clause-kept : goal.returns-clause-kept
returns-clause-kept g c = subst (λ n. IfOk c.row-2.result (λ row. row.kept ≡ kept_count c.args.level n)) c.in_ok-new.ensures.same_length c.row-2.ensures.kept

pub returns-clause-row : goal.returns-clause-row
returns-clause-row g c = c.row-2.ensures.row c.args.fixes.now.points (c.args.level ∷ []) c.in_ok-new.ensures (0, omega arith, refl)
