use Rattle.std.proofs.Common.{sym, subst}
use Rattle.range_line.proofs.RuleSteps.{At}
use Rattle.range_line.proofs.EndFacts.{at_or, compared}
use Rattle.range_line.proofs.settled.compare.Goals as goal

pub learn-requires-clause-line : goal.learn-requires-clause-line
learn-requires-clause-line g c =
    let feeders = c.deref.result.now in
    let f = c.in-Some.feeder.now in
    let item = c.in-Some.ensures.item in
    c.requires.line 0 f (subst (λ l. At l 0 f) c.deref.ensures.value (subst (At feeders 0) (sym item.1) (at_or feeders 0 f item.3.0)))

pub returns-in-Some-clause-taken : goal.returns-in-Some-clause-taken
returns-in-Some-clause-taken g c = let r = c.learn.ensures.rest in compared c.args.pass.now r.0 c.args.feeders.now.items r.1 c.requires.transcripts
