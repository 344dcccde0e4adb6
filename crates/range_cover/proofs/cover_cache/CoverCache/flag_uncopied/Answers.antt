use Rattle.std.proofs.Common.{arith, sym}
use Rattle.std.proofs.lemmas.Grind.{common_steps}
use Rattle.std.proofs.lemmas.Option.{get_or_from_slice_get}
use Rattle.range_cover.proofs.cover_cache.CoverCache.flag_uncopied.Goals as goal

pub loop-i-preserved : goal.loop-i-preserved
loop-i-preserved g c =
    let point = sym (get_or_from_slice_get c.args.points.now.points c.loop-i.i c.at.result c.at.result c.at.ensures) in
    grind (arith, common_steps)
