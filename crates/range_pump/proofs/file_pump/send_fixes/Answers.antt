use Rattle.std.proofs.Common.{◌≡◌, ◌∙◌, ◌+◌, Ok, Err, None, ap, arith, rules}
use Rattle.range_pump.proofs.Feedings.{fed_end, fed_fault, fed_gone, way_more, way_none}
use Rattle.range_pump.proofs.file_pump.send_fixes.Goals as goal

pub loop-more-init : goal.loop-more-init
loop-more-init g c = record {
  limit = omega (arith, c.requires.reader);
  count = 0;
  way = λ source reads. way_none source c.args.block c.args.feeder.now c.args.reader.now c.requires.feeder c.requires.reader reads;
}

pub send_block-requires-clause-live : goal.send_block-requires-clause-live
send_block-requires-clause-live g c κs within =
    let way = c.loop-more.invariant.way None tt in
    (way.unmarked, way.live)

pub send_block-requires-clause-room : goal.send_block-requires-clause-room
send_block-requires-clause-room g c κs within =
    let way = c.loop-more.invariant.way None tt in
    let read = c.read_block-fixes.ensures in
    omega (arith, way.counted, read.fixes.count, read.limit)

pub loop-more-preserved : goal.loop-more-preserved
loop-more-preserved g c =
    let inv = c.loop-more.invariant in
    let read = c.read_block-fixes.ensures in
    let whole = read.full (c.in_ok-more.was ∙ ap (λ b. Ok b) c.if-not-branch.false) in
    record {
      limit = read.limit;
      count = inv.count + 1;
      way = λ source reads. way_more c.send_block.new.feeder (record
          { width = c.requires.block.0; way = inv.way source reads; gives = read.fixes; small = read.size }) whole c.in_ok-send_block.ensures.sent;
    }

pub loop-more-smaller : goal.loop-more-smaller
loop-more-smaller g c =
    let read = c.read_block-fixes.ensures in
    let whole = read.full (c.in_ok-more.was ∙ ap (λ b. Ok b) c.if-not-branch.false) in
    omega (arith, whole, read.fixes.count, read.limit, c.requires.block.0)

pub returns-in_err-send_block-clause-fed : goal.returns-in_err-send_block-clause-fed
returns-in_err-send_block-clause-fed g c = λ source reads.
    let read = c.read_block-fixes.ensures in
    let gone = c.in_err-send_block.ensures.gone in
    let is : c.from_residual.result ≡ Err c.in_err-send_block.field-0.0 = search rules in
    rw (is, gone.0)
    (fed_gone c.send_block.new.feeder (record {
      width = c.requires.block.0;
      way = c.loop-more.invariant.way source reads;
      gives = read.fixes;
      small =
          read.size;
    }) gone.2 gone.1)

pub returns-in_err-more-clause-fed : goal.returns-in_err-more-clause-fed
returns-in_err-more-clause-fed g c = λ source reads.
    let read = c.read_block-fixes.ensures in
    let fault = c.in_err-more.field-0.0 in
    let own = rw c.in_err-more.was at read.own in
    let ends = rw c.in_err-more.was at read.fault in
    let is : c.from_residual-in_err-more.result ≡ Err fault = search rules in
    rw is
    (fed_fault c.send_block.new.feeder fault (record {
      width = c.requires.block.0;
      way = c.loop-more.invariant.way source reads;
      gives = read.fixes;
      small =
          read.size;
    }) c.in_ok-send_block.ensures.sent own ends)

pub returns-then-not-branch-clause-fed : goal.returns-then-not-branch-clause-fed
returns-then-not-branch-clause-fed g c = λ source reads.
    let read = c.read_block-fixes.ensures in
    let end = read.end (c.in_ok-more.was ∙ ap (λ b. Ok b) c.if-not-branch.true) in
    fed_end c.send_block.new.feeder c.name_of.result (record {
      width = c.requires.block.0;
      way = c.loop-more.invariant.way source reads;
      gives = read.fixes;
      small = read.size;
    }) c.in_ok-send_block.ensures.sent end.0 end.1
    c.name_of.ensures.name c.name_of.ensures.refused
