use Rattle.std.proofs.Common.{◌≡◌, ◌+◌, ◌∙◌, Bool, ℕ, length, ap, sym, subst, arith, rules}
use Rattle.crossbeam_channel.specs.Ends.{sends_on, ruled_capacity}
use Rattle.range_line.specs.LineEnds.{FeederView}
use Rattle.range_line.specs.Passes.{IsFeeding}
use Rattle.range_line.proofs.Passes.{block_is_next, pushes, pushed}
use Rattle.range_line.proofs.feeder.Feeder.send.Goals as goal

pub send-requires-clause-rule : goal.send-requires-clause-rule
send-requires-clause-rule g c =
    let s = c.self.inside in
    let next = block_is_next s.pass _ s.file s.closed s.sent_fixes c.args.self.now _ _ _ c.self.invariant.1 c.self.view_is c.requires.live c.requires.size
    c.requires.room c.new.ensures c.next_message-message.ensures in
    pushes s.pass _ s.file s.closed s.sent_fixes _ _ _ next

pub invariant_of-self : goal.invariant_of-self
invariant_of-self g c =
    let s = c.self.inside in
    let next = block_is_next s.pass _ s.file s.closed s.sent_fixes c.args.self.now _ _ _ c.self.invariant.1 c.self.view_is c.requires.live c.requires.size
    c.requires.room c.new.ensures c.next_message-message.ensures in
    let open_ = ap (λ (x : FeederView). x.closed) c.self.view_is ∙ c.requires.live.0 in
    let count : s.sent_fixes + length c.new.result ≡ s.sent_fixes + c.len-count.result = omega (arith, ap length c.new.ensures, c.len-count.ensures) in (
      c.in-Ok.ensures.channel.0,
      subst (λ (t : Bool × ℕ). IsFeeding c.send.new.pass (ruled_capacity (sends_on s.sender)) s.file t.0 t.1)
          (λ i. (sym open_ i, count i)) (pushed s.pass _ s.file s.closed s.sent_fixes _ _ _ next c.send.new.pass c.in-Ok.ensures.rule),
    )

pub returns-in-Ok-clause-sent : goal.returns-in-Ok-clause-sent
returns-in-Ok-clause-sent g c = search rules

pub invariant_of-self-in-Err : goal.invariant_of-self-in-Err
invariant_of-self-in-Err g c = search rules

pub returns-in-Err-clause-sent : goal.returns-in-Err-clause-sent
returns-in-Err-clause-sent g c = search rules
