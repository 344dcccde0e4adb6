use Rattle.std.proofs.Common.{◌≡◌, ◌*◌, ◌+◌, ◌-◌, sym, refl, arith, rules}
use Rattle.split_pace.proofs.Reach.{over_by, spared_by, square_fits, wide}
use Rattle.split_pace.proofs.speed.is_within_near.Goals as goal

pub overflow_mul-square : goal.overflow_mul-square
overflow_mul-square c = search (rules, square_fits c.args.northing c.requires.northing)

pub returns-in_default : goal.returns-in_default
returns-in_default c =
    let a = c.args in
    sym (spared_by a.whole a.rest a.easting a.northing _ c.requires.least refl (wide a.northing _ c.requires.northing c.in_default.ensures))

pub returns-then-square-spare : goal.returns-then-square-spare
returns-then-square-spare c =
    let a = c.args in
    let spare : c.in-Some.spare ≡ (a.whole - a.easting) * (a.whole + a.easting) = search rules in
    sym (spared_by a.whole a.rest a.easting a.northing c.in-Some.spare c.requires.least spare c.if-square-spare.true)

pub returns : goal.returns
returns c =
    let a = c.args in
    let spare : c.in-Some.spare ≡ (a.whole - a.easting) * (a.whole + a.easting) = search rules in
    over_by a.whole a.rest a.easting a.northing c.in-Some.spare c.requires.least spare (omega (arith, c.if-square-spare.false))
