use Rattle.std.proofs.Common.{take, set, get_or, sym, subst, true}
use Rattle.std.proofs.lemmas.List.{take_more}
use Rattle.page_influence.specs.Layers.{AreFlags}
use Rattle.page_influence.proofs.Steps.{flag_more}
use Rattle.page_influence.proofs.corner_fixes.flags_of.Goals as goal

pub loop-fix-preserved : goal.loop-fix-preserved
loop-fix-preserved c =
    let fixes = c.args.fixes.now in
    let i = c.loop-fix.fix-index in
    let flags = c.loop-fix.flags.items in
    subst (λ l. AreFlags c.args.count l (set flags (get_or fixes i 0) true)) (sym (take_more fixes i 0 c.loop-fix-test.true))
    (flag_more c.args.count (take i fixes) (get_or fixes i 0) flags c.loop-fix.invariant (c.requires i c.loop-fix-test.true))
