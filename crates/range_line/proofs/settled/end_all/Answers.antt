use Rattle.std.proofs.Common.{◌≡◌, suc, ◌+◌, [], ◌∷◌, ◌++◌, map, take, drop, set, ap, ◌∙◌, subst, arith}
use Rattle.std.specs.Prelude.{slice_index_or}
use Rattle.crossbeam_channel.specs.Claims.{view}
use Rattle.range_line.specs.LineEnds.{ended_feeder}
use Rattle.range_line.specs.Passes.{after_joining_all}
use Rattle.range_line.proofs.RuleSteps.{At}
use Rattle.range_line.proofs.EndFacts.{at_or, settles_at, unsettled_at, shows_at}
use Rattle.range_line.proofs.settled.end_all.Goals as goal

pub end-requires-clause-line : goal.end-requires-clause-line
end-requires-clause-line g c =
    let inv = c.loop-feeder.invariant in
    let k = c.loop-feeder.feeder-index in
    let now = c.loop-feeder.feeder-items in
    let f = slice_index_or now k c.feeder-item.result in
    let at_now = at_or now k c.feeder-item.result (omega (arith, c.loop-feeder-test.true, c.loop-feeder.auto.feeder-items)) in
    inv.2 ∙ c.requires.line k f (unsettled_at c.args.feeders.now.items k f (subst (λ l. At l k f) inv.4 at_now))

pub loop-feeder-preserved : goal.loop-feeder-preserved
loop-feeder-preserved g c =
    let inv = c.loop-feeder.invariant in
    let fs = c.args.feeders.now.items in
    let v = view c.args.pass.now in
    let k = c.loop-feeder.feeder-index in
    let now = c.loop-feeder.feeder-items in
    let f = slice_index_or now k c.feeder-item.result in
    let e = c.end.ensures in
    let next : suc k ≡ k + 1 = omega arith in
    let at_now = at_or now k c.feeder-item.result (omega (arith, c.loop-feeder-test.true, c.loop-feeder.auto.feeder-items)) in
    let at = unsettled_at fs k f (subst (λ l. At l k f) inv.4 at_now) in (
      e.taker.0,
      e.taker.1,
      e.taker.2 ∙ inv.2,
      e.transcripts ∙ ap (λ w. after_joining_all w (f ∷ [])) inv.3 ∙ shows_at v fs k f at ∙ ap (λ n. after_joining_all v (take n fs)) next,
      (λ i. set (inv.4 i) k (e.feeder i)) ∙ settles_at fs k f at ∙ ap (λ n. map ended_feeder (take n fs) ++ drop n fs) next,
    )
