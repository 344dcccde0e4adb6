use Rattle.std.proofs.Common.{rules, ◌≡◌, ◌-◌, length, take, drop, arith, sym, length-drop}
use Rattle.std.proofs.lemmas.Grind.{common_steps}
use Rattle.std.proofs.KnownBytes.{Appends-trans}
use Rattle.std.proofs.Math.Seq.{take-add, take-length}
use Rattle.range_run.proofs.written_text.write_whole.Goals as goal

pub loop-at-preserved : goal.loop-at-preserved
loop-at-preserved g c =
    let inv = c.loop-at.invariant in
    let text = c.args.text.now in
    let at = c.loop-at.at in
    let rest : length text - at ≡ length (drop at text) = sym (length-drop at text) in
    let whole : take (length text - at) (drop at text) ≡ drop at text = rw rest (take-length (drop at text)) in
    let bytes = rw whole at c.in-Ok.ensures.bytes in
    let bound = rw whole at c.in-Ok.ensures.bound in
    (omega (arith, length-drop at text, bound), rw (take-add at c.in-Ok.n text) (Appends-trans _ _ _ _ _ inv.1 bytes))

pub returns-clause-whole : goal.returns-clause-whole
returns-clause-whole g c = grind (arith, common_steps)

pub returns-clause-fault : goal.returns-clause-fault
returns-clause-fault g c = search rules

pub returns-in-Ok-eq0-clause-whole : goal.returns-in-Ok-eq0-clause-whole
returns-in-Ok-eq0-clause-whole g c = search rules
