use Rattle.std.proofs.Common.{List, ℕ, arith, subst}
use Rattle.page_influence.specs.Layers.{IsFirstLeast}
use Rattle.page_influence.proofs.Least.{least_is}
use Rattle.page_influence.proofs.influence.least_without.Goals as goal

pub returns : goal.returns
returns c =
    let own : IsFirstLeast c.in_ok-areas.areas.items c.first_least.result =
    subst (λ (l : List ℕ). IsFirstLeast l c.first_least.result) c.deref.ensures.value c.first_least.ensures in (
      omega (arith, c.if-len-lt2.false, c.len.ensures),
      least_is c.args.points.now.points c.in_ok-areas.areas.items c.first_least.result c.in_ok-areas.ensures own,
    )
