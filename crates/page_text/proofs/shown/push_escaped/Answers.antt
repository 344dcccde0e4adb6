use Rattle.std.proofs.lemmas.List.{take_rest}
use Rattle.page_text.proofs.ShownFacts.{passed_on, written_on, written_to_the_end}
use Rattle.page_text.proofs.shown.push_escaped.Goals as goal
use Rattle.page_text.proofs.shown.push_escaped.Goals.{then-behind-gt0, else-behind-gt0+in_ok-push_sign}

pub loop-place-preserved : goal.loop-place-preserved
loop-place-preserved c =
    let line = c.args.line.now in
    let within = c.loop-place-test.true in
    elim c.if-behind-gt0.branch [
      | then-behind-gt0 w ↦
          rw (w.text-is, w.behind-is) (passed_on c.loop-place.text.items line _ c.loop-place.place c.loop-place.behind within w.if-behind-gt0.true c.loop-place.invariant)
      | else-behind-gt0+in_ok-push_sign w ↦
          let rest = take_rest line c.loop-place.place in
          rw (w.text-is, w.behind-is, w.in_ok-push_sign.ensures, w.behind_beside-behind.ensures, w.hidden_code-hidden.ensures)
          (written_on c.loop-place.text.items line _ _ c.loop-place.place c.loop-place.behind within w.if-behind-gt0.false rest c.loop-place.invariant)
    ]

pub returns : goal.returns
returns c = written_to_the_end c.loop-place.text.items c.args.line.now _ c.loop-place.place c.loop-place.behind c.loop-place-test.false c.loop-place.invariant
