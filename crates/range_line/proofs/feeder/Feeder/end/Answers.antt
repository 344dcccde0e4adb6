use Rattle.std.proofs.Common.{get_or, sym, ap, ◌∙◌}
use Rattle.crossbeam_channel.specs.Ends.{sends_on}
use Rattle.range_line.specs.declared.rule.PassView.{PassView}
use Rattle.range_line.specs.LineEnds.{first_file, FeederView}
use Rattle.range_line.proofs.Passes.{same_line, ended_of, forks, merges, merged}
use Rattle.range_line.proofs.feeder.Feeder.end.Goals as goal

pub another-transcript-requires-clause-rule : goal.another-transcript-requires-clause-rule
another-transcript-requires-clause-rule g c = let s = c.self.inside in forks s.pass _ s.file s.closed s.sent_fixes c.self.invariant.1

pub absorb-requires-clause-rule : goal.absorb-requires-clause-rule
absorb-requires-clause-rule g c =
    let s = c.self.inside in
    merges c.args.pass.now c.another-transcript.result _ _ _ _ _ c.requires.taker.0
    (ended_of s.pass c.another-transcript.result _ s.file s.closed s.sent_fixes c.self.invariant.1 c.another-transcript.ensures.rule.1)

pub returns-clause-taker : goal.returns-clause-taker
returns-clause-taker g c = (
  merged c.args.pass.now c.another-transcript.result c.absorb.new.pass c.requires.taker.0 c.absorb.ensures.rule,
  c.absorb.ensures.channel.0.2,
  (let seen = ap (λ (f : FeederView). f.line) c.self.view_is in
      let first = ap (λ (v : PassView). get_or v.files 0 0) c.absorb.ensures.rule ∙ ap first_file c.requires.line ∙ sym (ap first_file seen) in
      same_line (sends_on c.self.inside.sender) c.absorb.new.pass c.self.inside.pass c.absorb.ensures.channel.0 c.self.invariant.0 first ∙ seen
      ∙ sym c.requires.line),
)
