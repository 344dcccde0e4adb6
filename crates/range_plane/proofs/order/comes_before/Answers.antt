use Rattle.std.proofs.Common.{◌<ℤ◌, ◌≤ℤ◌, arith}
use Rattle.std.proofs.lemmas.Bool.{OnFalse_from, OnTrue_from}
use Rattle.std.proofs.lemmas.Int.{ints}
use Rattle.range_plane.specs.Order.{rank}
use Rattle.range_plane.proofs.Ranks.{at_most_by_rank, before_by_rank}
use Rattle.range_plane.proofs.order.comes_before.Goals as goal

pub returns-clause-yes : goal.returns-clause-yes
returns-clause-yes c = OnTrue_from _ _ (λ h.
    let lt : rank c.args.a <ℤ rank c.args.b = omega (
      arith,
      ints,
      c.rank.ensures.value,
      c.rank-2.ensures.value,
      c.rank.ensures.not_negative,
      c.rank-2.ensures.not_negative,
      h,
    ) in
    before_by_rank c.args.a c.args.b c.rank.ensures.within c.rank-2.ensures.within lt)

pub returns-clause-no : goal.returns-clause-no
returns-clause-no c = OnFalse_from _ _ (λ h.
    let le : rank c.args.b ≤ℤ rank c.args.a = omega (
      arith,
      ints,
      c.rank.ensures.value,
      c.rank-2.ensures.value,
      c.rank.ensures.not_negative,
      c.rank-2.ensures.not_negative,
      h,
    ) in
    at_most_by_rank c.args.b c.args.a c.rank-2.ensures.within c.rank.ensures.within le)
