use Rattle.std.proofs.Common.{◌≡◌, None, Some}
use Rattle.std.proofs.lemmas.List.{take_rest}
use Rattle.page_record.specs.Unescaped.{sign_in, unescaped}
use Rattle.page_record.proofs.Unescaping.{none_read, passed_over, read_on, read_to_the_end}
use Rattle.page_record.proofs.unescaped.unescaped.Goals as goal
use Rattle.page_record.proofs.unescaped.unescaped.Goals.{then-behind-gt0, else-behind-gt0+in-Some+in_ok-push_sign}

pub loop-place-preserved : goal.loop-place-preserved
loop-place-preserved c =
    let text = c.args.text.now in
    let within = c.loop-place-test.true in
    elim c.if-behind-gt0.branch [
      | then-behind-gt0 w ↦
          rw (w.own-is, w.behind-is) (passed_over c.loop-place.own.items text (unescaped text) c.loop-place.place c.loop-place.behind within w.if-behind-gt0.true c.loop-place.invariant)
      | else-behind-gt0+in-Some+in_ok-push_sign w ↦
          let rest = take_rest text c.loop-place.place in
          let is : Some w.in-Some.sign ≡ sign_in _ = rw w.in-Some.is at w.sign_in.ensures in
          rw (w.own-is, w.behind-is, w.in_ok-push_sign.ensures, w.sign_behind-behind.ensures)
          (read_on c.loop-place.own.items text _ (unescaped text) c.loop-place.place c.loop-place.behind w.in-Some.sign within w.if-behind-gt0.false rest is c.loop-place.invariant)
    ]

pub returns-in_default : goal.returns-in_default
returns-in_default c =
    let text = c.args.text.now in
    let rest = take_rest text c.loop-place.place in
    let is : None ≡ sign_in _ = rw c.in_default.is at c.sign_in.ensures in
    none_read c.loop-place.own.items text _ (unescaped text) c.loop-place.place c.loop-place.behind c.loop-place-test.true c.if-behind-gt0.false rest is c.loop-place.invariant

pub returns : goal.returns
returns c = read_to_the_end c.loop-place.own.items c.args.text.now (unescaped c.args.text.now) c.loop-place.place c.loop-place.behind c.loop-place-test.false c.loop-place.invariant
