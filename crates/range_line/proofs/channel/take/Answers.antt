use Rattle.std.proofs.Common.{ℕ, sym, subst, rules}
use Rattle.crossbeam_channel.specs.Fifo.{Learns, Pops}
use Rattle.range_line.specs.declared.rule.PassView.{PassView}
use Rattle.range_line.specs.Rule.{IsRest, IsRuled, Takes}
use Rattle.range_line.proofs.channel.take.Goals as goal

pub recv_as-requires-clause-rule : goal.recv_as-requires-clause-rule
recv_as-requires-clause-rule g c =
    let found = c.in_default.ensures in
    subst (λ (s : ℕ × PassView). Pops IsRuled s.0 s.1 (Takes s.1) × Learns IsRuled s.0 s.1 (λ items. IsRest s.1 items))
    (λ i. (sym found.channel.1 i, sym found.rule.0 i)) c.requires.rule

pub returns-in-Ok-clause-rule : goal.returns-in-Ok-clause-rule
returns-in-Ok-clause-rule g c = search rules
