use Rattle.std.proofs.Common.{◌≡◌, All, length, arith, ap, subst}
use Rattle.std.proofs.lemmas.List.Elements.{All-head, All-push, All-rest}
use Rattle.range_collect.specs.Fresh.{IsNew}
use Rattle.range_lemmas.proofs.Indices.{moved}
use Rattle.range_collect.proofs.pumps.start_pumps.Goals as goal

pub start_pump-requires-clause-fresh : goal.start_pump-requires-clause-fresh
start_pump-requires-clause-fresh g c = λ κs live.
    let feeder = c.in-Some-next.ensures.cases.0 in
    All-head IsNew _ _ (subst (λ l. All IsNew l) feeder c.loop-source.invariant.fresh)

pub loop-source-preserved : goal.loop-source-preserved
loop-source-preserved g c =
    let inv = c.loop-source.invariant in
    let hs = c.loop-source.handles.items in
    let h = c.in_ok-handle.handle in
    let made = c.in_ok-handle.ensures in
    let items = c.push_reserved.ensures.items in
    let source = c.in-Some.ensures.steps.0 in
    let feeder = c.in-Some-next.ensures.cases.0 in
    let sources = ap length source in
    let feeders = ap length feeder in
    record {
      sources = rw items (moved _ hs h c.in-Some.source _ _ _ inv.sources source made.0);
      feeders = rw items (moved _ hs h c.in-Some-next.feeder _ _ _ inv.feeders feeder made.1);
      plans = rw items (All-push (λ h. h.promise.plan ≡ c.args.context.now.plan) hs h inv.plans made.2);
      fresh = All-rest IsNew _ _ _ feeder inv.fresh;
      same = omega (arith, sources, feeders, inv.same);
      room = omega (arith, inv.room, c.push_reserved.ensures.capacity);
      count = omega (arith, sources, inv.count, c.push_reserved.ensures.len);
    }
