use Rattle.std.proofs.Common.{◌≡◌, ◌<◌, length, take, set, get_or, length-set, length-take, arith, sym, subst}
use Rattle.std.proofs.lemmas.List.{take_all, take_more}
use Rattle.page_influence.specs.Influence.{IsAreaOf}
use Rattle.page_influence.specs.Layers.{IsSetAt, other_corners}
use Rattle.page_influence.proofs.Steps.{set_more}
use Rattle.page_influence.proofs.areas.set_areas.Goals as goal

pub loop-place-preserved : goal.loop-place-preserved
loop-place-preserved c = λ i inside.
    let corners = c.args.corners.now in
    let inner = c.args.inner.now in
    let fixes = c.args.fixes.now in
    let old = c.args.areas.now in
    let place = c.loop-place.place in
    let f = get_or fixes place 0 in
    let new = c.loop-place.areas in
    let area = c.in_ok-areas.field-0 in
    let size : length (take place fixes) ≡ place = omega (arith, length-take place fixes, c.loop-place-test.true) in
    let within : f < length new = omega (arith, c.requires.within place c.loop-place-test.true, c.loop-place.auto.areas) in
    subst (λ l. IsSetAt corners inner l old (set new f area) i) (sym (take_more fixes place 0 c.loop-place-test.true))
    (set_more corners inner (take place fixes) f old new area within
    (subst (λ n. IsAreaOf (other_corners corners n inner) area) (sym size) c.in_ok-areas.ensures) i
    (c.loop-place.invariant i (omega (arith, inside, length-set new f area))))

pub returns : goal.returns
returns c = λ i inside.
    let fixes = c.args.fixes.now in
    subst (λ l. IsSetAt c.args.corners.now c.args.inner.now l c.args.areas.now c.loop-place.areas i)
    (take_all c.loop-place.place fixes (omega (arith, c.loop-place-test.false)))
    (c.loop-place.invariant i (omega (arith, inside, c.loop-place.auto.areas)))
