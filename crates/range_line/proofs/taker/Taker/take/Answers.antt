use Rattle.std.proofs.Common.{ap, rules}
use Rattle.range_line.specs.LineEnds.{TakerView}
use Rattle.range_line.proofs.Passes.{pops, learns, received, received_of_line}
use Rattle.range_line.proofs.taker.Taker.take.Goals as goal

pub take-requires-clause-rule : goal.take-requires-clause-rule
take-requires-clause-rule g c = let t = c.self.invariant.1 in (pops c.self.inside.pass t, learns c.self.inside.pass t)

pub invariant_of-self : goal.invariant_of-self
invariant_of-self g c = (
  c.take.ensures.channel.0,
  received c.self.inside.pass c.take.new.pass
      (λ kept. kept) c.take.result c.self.invariant.1 c.take.ensures.rule,
)

pub returns-clause-of_line : goal.returns-clause-of_line
returns-clause-of_line g c =
    let files = ap (λ (t : TakerView). t.files) c.self.view_is in
    rw (c.ok.ensures.value, ← files) (received_of_line _ c.self.inside.pass c.take.new.pass c.take.result c.take.ensures.rule)

pub returns-clause-taken : goal.returns-clause-taken
returns-clause-taken g c = search rules
