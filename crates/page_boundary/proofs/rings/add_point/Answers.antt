use Rattle.std.proofs.Common.{◌≡◌, ◌-◌, ◌<◌, Some, length, slice_get, refl, arith}
use Rattle.std.proofs.lemmas.Option.{slice_get_read}
use Rattle.page_boundary.proofs.Adding.{put_in_last}
use Rattle.page_boundary.proofs.rings.add_point.Goals as goal

pub returns : goal.returns
returns c =
    let rings = c.args.rings.now.items in
    let count = c.len-count.result in
    let own = c.index_mut.result.now in
    let counted : count ≡ length rings = omega (arith, c.len-count.ensures, c.args.rings.now.ok.0) in
    let within : count - 1 < length rings = omega (arith, counted, c.if-count-eq0.false) in
    let there : slice_get rings (count - 1) ≡ Some own = slice_get_read rings (length rings) (count - 1) own refl within c.index_mut.ensures.value in
    put_in_last rings count own c.push-2.new.self c.args.point.ring c.args.point.at counted c.if-count-eq0.false (omega (arith, c.if-point-count-2.false)) there
    c.in_ok-push-2.ensures.items
