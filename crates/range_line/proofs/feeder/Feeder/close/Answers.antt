use Rattle.std.proofs.Common.{true, subst, arith, rules}
use Rattle.crossbeam_channel.specs.Ends.{sends_on, ruled_capacity}
use Rattle.range_line.specs.Passes.{IsFeeding}
use Rattle.range_line.proofs.Passes.{mark_is_next, pushes, pushed}
use Rattle.range_line.proofs.feeder.Feeder.close.Goals as goal

pub send-requires-clause-rule : goal.send-requires-clause-rule
send-requires-clause-rule g c =
    let s = c.self.inside in
    let next = mark_is_next s.pass _ s.file s.closed s.sent_fixes c.args.self.now _ c.self.invariant.1 c.self.view_is c.requires.live
    c.next_message-mark.ensures in
    pushes s.pass _ s.file s.closed s.sent_fixes _ _ _ next

pub invariant_of-self : goal.invariant_of-self
invariant_of-self g c =
    let s = c.self.inside in
    let next = mark_is_next s.pass _ s.file s.closed s.sent_fixes c.args.self.now _ c.self.invariant.1 c.self.view_is c.requires.live
    c.next_message-mark.ensures in (
      c.in-Ok.ensures.channel.0,
      subst (λ n. IsFeeding c.send.new.pass (ruled_capacity (sends_on s.sender)) s.file true n) (omega arith)
          (pushed s.pass _ s.file s.closed s.sent_fixes _ _ _ next c.send.new.pass c.in-Ok.ensures.rule),
    )

pub returns-clause-sent : goal.returns-clause-sent
returns-clause-sent g c = search rules
