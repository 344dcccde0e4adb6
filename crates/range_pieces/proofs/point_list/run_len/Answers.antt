use Rattle.std.proofs.Common.{◌≡◌, ap, ◌+◌, ◌<◌, ◌≤◌, inl, inr, length, arith}
use Rattle.range_pieces.specs.Pieces.{all_points, offset}
use Rattle.range_pieces.specs.PointList.{index}
use Rattle.range_pieces.proofs.Joins.{offset_more, offset_within}
use Rattle.range_pieces.proofs.PieceIndices.{index_within, stand_in_order}
use Rattle.range_pieces.proofs.point_list.run_len.Goals as goal

pub len_of-requires : goal.len_of-requires
len_of-requires g c =
    let bs = c.args.shelf.now.pieces in
    let from = c.args.from in
    let to = c.args.to in
    let ordered : from.piece < to.piece =
    elim (stand_in_order bs from to c.requires.from c.requires.to c.requires.order) [ inl l ↦ l | inr e ↦ absurd (c.if-from-to.false e.0) ] in
    omega (arith, ordered, c.requires.to.bound)

pub overflow_step-i : goal.overflow_step-i
overflow_step-i g c =
    let bs = c.args.shelf.now.pieces in
    let from = c.args.from in
    let to = c.args.to in
    let ordered : from.piece < to.piece =
    elim (stand_in_order bs from to c.requires.from c.requires.to c.requires.order) [ inl l ↦ l | inr e ↦ absurd (c.if-from-to.false e.0) ] in
    omega (arith, ordered)

pub loop-i-init : goal.loop-i-init
loop-i-init g c =
    let bs = c.args.shelf.now.pieces in
    let from = c.args.from in
    let to = c.args.to in
    let ordered : from.piece < to.piece =
    elim (stand_in_order bs from to c.requires.from c.requires.to c.requires.order) [ inl l ↦ l | inr e ↦ absurd (c.if-from-to.false e.0) ] in
    let within : from.piece < length bs = omega (arith, ordered, c.requires.to.bound) in
    omega (arith, offset_more bs from.piece within, c.requires.from.before_point within, c.len_of.ensures.value)

pub overflow_add-passed : goal.overflow_add-passed
overflow_add-passed g c =
    let bs = c.args.shelf.now.pieces in
    let within : c.loop-i.i < length bs = omega (arith, c.loop-i-test.true, c.requires.to.bound) in
    omega (arith, c.loop-i.invariant, offset_more bs c.loop-i.i within, offset_within bs (c.loop-i.i + 1), c.len_of-passed.ensures.value, c.requires.few)

pub loop-i-preserved : goal.loop-i-preserved
loop-i-preserved g c =
    let bs = c.args.shelf.now.pieces in
    let within : c.loop-i.i < length bs = omega (arith, c.loop-i-test.true, c.requires.to.bound) in
    omega (arith, c.loop-i.invariant, offset_more bs c.loop-i.i within, c.len_of-passed.ensures.value)

pub overflow_add-result : goal.overflow_add-result
overflow_add-result g c =
    let bs = c.args.shelf.now.pieces in
    let from = c.args.from in
    let to = c.args.to in
    let ordered : from.piece < to.piece =
    elim (stand_in_order bs from to c.requires.from c.requires.to c.requires.order) [ inl l ↦ l | inr e ↦ absurd (c.if-from-to.false e.0) ] in
    let last : c.loop-i.i ≡ to.piece = omega (arith, ordered, c.loop-i-test.false, c.loop-i.auto.i-end) in
    let top : index bs to ≤ length (all_points bs) = index_within bs to c.requires.to in
    omega (arith, c.loop-i.invariant, top, ap (offset bs) last, c.requires.few)

pub returns : goal.returns
returns g c =
    let bs = c.args.shelf.now.pieces in
    let from = c.args.from in
    let to = c.args.to in
    let ordered : from.piece < to.piece =
    elim (stand_in_order bs from to c.requires.from c.requires.to c.requires.order) [ inl l ↦ l | inr e ↦ absurd (c.if-from-to.false e.0) ] in
    let last : c.loop-i.i ≡ to.piece = omega (arith, ordered, c.loop-i-test.false, c.loop-i.auto.i-end) in
    omega (arith, c.loop-i.invariant, ap (offset bs) last)
