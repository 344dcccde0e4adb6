use Rattle.std.proofs.Common.{◌≡◌, ◌-◌, length, take, drop, arith, sym, length-drop}
use Rattle.std.proofs.KnownBytes.{Appends-kept, Appends-trans}
use Rattle.std.proofs.Math.Seq.{take-add, take-length}
use Rattle.range_command.proofs.Failures.{IsSteady-trans}
use Rattle.range_command.proofs.RunSources.{on_err}
use Rattle.range_command.proofs.output.Output.write_whole.Goals as goal

pub loop-at-preserved : goal.loop-at-preserved
loop-at-preserved g c =
    let inv = c.loop-at.invariant in
    let text = c.args.text.now in
    let at = c.loop-at.at in
    let rest : length text - at ≡ length (drop at text) = sym (length-drop at text) in
    let whole : take (length text - at) (drop at text) ≡ drop at text = rw rest (take-length (drop at text)) in
    let bytes = rw whole at c.in_ok-at.ensures.bytes in
    let bound = rw whole at c.in_ok-at.ensures.bound in (
      omega (arith, length-drop at text, bound),
      rw (take-add at c.in_ok-at.field-0 text) (Appends-trans _ _ _ _ _ inv.1 bytes),
      IsSteady-trans _ _ _ inv.2 c.in_ok-at.ensures.steady,
    )

pub returns-in_err-at-clause-prefix : goal.returns-in_err-at-clause-prefix
returns-in_err-at-clause-prefix g c = on_err c.from_residual.result (c.loop-at.at, Appends-kept _ _ _ _ c.loop-at.invariant.1 c.in_err-at.ensures.bytes)
