use Rattle.std.proofs.Common.{length, sym, subst}
use Rattle.std.proofs.lemmas.Result.{IfOk-weaker}
use Rattle.page_influence.specs.Layers.{AreFlags, IsPolygonOfRest, IsPolygonWithout}
use Rattle.page_influence.proofs.Rest.{rest_is_other}
use Rattle.page_influence.proofs.areas.polygon_without.Goals as goal

pub returns : goal.returns
returns c =
    let points = c.args.points.now.points in
    let fixes = c.args.fixes.now in
    let flags = c.deref.result.now in
    let marked : AreFlags (length points) fixes flags = subst (AreFlags (length points) fixes) (sym c.deref.ensures.value)
    (subst (λ n. AreFlags n fixes c.in_ok-flags.flags.items) c.len.ensures c.in_ok-flags.ensures) in
    IfOk-weaker c.polygon_of_rest.result (IsPolygonOfRest points flags) (IsPolygonWithout points fixes)
    (λ polygon. rest_is_other points flags fixes polygon marked) c.polygon_of_rest.ensures
