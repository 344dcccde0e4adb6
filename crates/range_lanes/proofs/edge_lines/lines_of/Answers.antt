use Rattle.std.proofs.Common.{◌≡◌, ◌<◌, length, add-one, ◌∙◌, arith}
use Rattle.std.proofs.lemmas.List.{get_or_read, length-set}
use Rattle.range_plane.specs.Edges.{at}
use Rattle.range_plane.specs.Plane.{origin}
use Rattle.range_lanes.specs.EdgeLines.{IsLineOf, corner_before}
use Rattle.range_lanes.proofs.EdgeSides.{lines_more}
use Rattle.range_lanes.proofs.edge_lines.lines_of.Goals as goal

pub loop-i-preserved : goal.loop-i-preserved
loop-i-preserved c =
    let L = c.args.corners.now in
    let i = c.loop-i.i in
    let lines = c.loop-i.lines in
    let inv = c.loop-i.invariant in
    let within : i < length lines = omega (arith, c.loop-i-test.true, c.requires.few, inv.size) in
    let to : c.index-corners-i.result ≡ at L i = get_or_read L i c.index-corners-i.result (omega arith) c.index-corners-i.is origin in
    let next : c.index-corners-i-in-loop-i.result ≡ at L i = get_or_read L i c.index-corners-i-in-loop-i.result (omega arith)
    c.index-corners-i-in-loop-i.is origin in
    let line : IsLineOf (corner_before L i) (at L i) c.through.result = rw (← inv.from, ← to) c.through.ensures in
    record {
      from = rw add-one next;
      size = length-set lines i c.through.result ∙ inv.size;
      lines = lines_more L lines i c.through.result within inv.lines line;
    }
