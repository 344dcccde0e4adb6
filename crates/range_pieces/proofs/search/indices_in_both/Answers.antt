use Rattle.std.proofs.Common.{ℕ, ◌+◌, ◌/◌, length, arith}
use Rattle.range_plane.specs.Edges.{at}
use Rattle.range_pieces.proofs.PieceIndices.{counted, falls_last, halved_or_done, read}
use Rattle.range_pieces.proofs.search.indices_in_both.Goals as goal

pub loop-first_size-preserved : goal.loop-first_size-preserved
loop-first_size-preserved c =
    let L = c.args.first.now in
    let M = c.args.second.now in
    let p = c.args.p in
    let loop = c.loop-first_size in
    let first = loop.invariant.0 in
    let second = loop.invariant.1 in
    let x = c.index-first-in_first.result in
    let y = c.index-second-in_second.result in
    let half : ℕ = loop.first_size / 2 in
    let half' : ℕ = loop.second_size / 2 in
    let step = c.count_before-in_first in
    let step' = c.count_before-in_second in (
      halved_or_done (at L) (length L) p loop.in_first loop.first_size step.result c.requires.rising.0 first
          (counted (at L) p x (loop.in_first + half) half step.result
          (read L x (loop.in_first + half) (omega (arith, first.within, first.some)) c.index-first-in_first.is) step.ensures),
      halved_or_done (at M) (length M) p loop.in_second loop.second_size step'.result c.requires.rising.1 second
          (counted (at M) p y (loop.in_second + half') half' step'.result
          (read M y (loop.in_second + half') (omega (arith, second.within, second.some)) c.index-second-in_second.is) step'.ensures),
    )

pub returns-clause-first : goal.returns-clause-first
returns-clause-first c =
    let L = c.args.first.now in
    let loop = c.loop-first_size in
    let first = loop.invariant.0 in
    let x = c.index-first-in_first-2.result in
    falls_last L c.args.p loop.in_first loop.first_size c.count_before.result c.requires.rising.0 (omega (arith, c.if-first_size-gt1.false)) first
    (counted (at L) c.args.p x loop.in_first 1 c.count_before.result
    (read L x loop.in_first (omega (arith, first.within, first.some)) c.index-first-in_first-2.is) c.count_before.ensures)

pub returns-clause-second : goal.returns-clause-second
returns-clause-second c =
    let L = c.args.second.now in
    let loop = c.loop-first_size in
    let second = loop.invariant.1 in
    let x = c.index-second-in_second-2.result in
    falls_last L c.args.p loop.in_second loop.second_size c.count_before-2.result c.requires.rising.1 (omega (arith, c.if-second_size-gt1.false)) second
    (counted (at L) c.args.p x loop.in_second 1 c.count_before-2.result
    (read L x loop.in_second (omega (arith, second.within, second.some)) c.index-second-in_second-2.is) c.count_before-2.ensures)
