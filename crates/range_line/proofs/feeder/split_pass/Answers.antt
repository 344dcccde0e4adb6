use Rattle.std.proofs.Common.{false, true, [], get_or, sym, subst}
use Rattle.std.specs.Prelude.{Contains}
use Rattle.crossbeam_channel.specs.Claims.{view}
use Rattle.crossbeam_channel.specs.Fifo.{Forks}
use Rattle.range_line.specs.declared.rule.PassView.{PassView}
use Rattle.range_line.specs.Rule.{IsRuled, feeder_pass, after_opening}
use Rattle.range_line.proofs.RuleSteps.{opens}
use Rattle.range_line.proofs.feeder.split_pass.Goals as goal

pub another-requires-clause-rule : goal.another-requires-clause-rule
another-requires-clause-rule g c =
    let depth = g.B.Opening.depth in
    let file = g.B.Opening.file in
    let known = view c.args.pass.now in
    let taker = c.requires.taker in
    subst (λ (v : PassView). Forks IsRuled c.args.pass.now.id v (after_opening depth file v) (feeder_pass depth (get_or v.files 0 file) file [] false true))
    (sym taker.0)
    (opens c.args.pass.now.id known.depth depth file known.files [] [] (λ x. taker.1 (subst (Contains known.files) (sym c.requires.file) x)) taker.2)
