use Rattle.std.proofs.Common.{◌<◌, length, ◌∙◌, sym, arith}
use Rattle.split_folder.proofs.GoodNames.{other_name, others_more, same_name}
use Rattle.split_folder.specs.Fault.{names_in}
use Rattle.split_folder.proofs.names.same_before.Goals as goal

pub returns-then-eq-clause-same : goal.returns-then-eq-clause-same
returns-then-eq-clause-same c =
    let below : c.loop-before.before < length c.args.files.now = omega (arith, c.loop-before-test.true, c.requires) in (
      c.loop-before-test.true,
      same_name c.args.files.now c.loop-before.before c.args.file _ below c.requires (sym c.eq.ensures ∙ c.if-eq.true),
    )

pub loop-before-preserved : goal.loop-before-preserved
loop-before-preserved c =
    let below : c.loop-before.before < length c.args.files.now = omega (arith, c.loop-before-test.true, c.requires) in
    others_more (names_in c.args.files.now) c.loop-before.before c.args.file c.loop-before.invariant
    (other_name c.args.files.now c.loop-before.before c.args.file _ below c.requires (sym c.eq.ensures ∙ c.if-eq.false))
