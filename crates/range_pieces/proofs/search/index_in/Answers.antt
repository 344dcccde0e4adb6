use Rattle.std.proofs.Common.{◌<◌, length, arith}
use Rattle.range_plane.specs.Edges.{at}
use Rattle.range_pieces.proofs.PieceIndices.{counted, falls_last, read}
use Rattle.range_pieces.proofs.search.index_in.Goals as goal

pub returns : goal.returns
returns c =
    let L = c.args.points.now in
    let low = c.last_before-low.result in
    let found = c.last_before-low.ensures in
    let step = c.count_before in
    let x = c.index-points-low.result in
    let within : low < length L = omega (arith, found.within) in
    falls_last L c.args.p low 1 step.result c.requires.rising (omega arith) found
    (counted (at L) c.args.p x low 1 step.result (read L x low within c.index-points-low.is) step.ensures)
