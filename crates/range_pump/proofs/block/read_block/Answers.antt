use Rattle.std.proofs.Common.{arith, rules}
use Rattle.range_pump.proofs.Readings.{gives_more}
use Rattle.range_pump.proofs.block.read_block.Goals as goal

pub loop-number-preserved : goal.loop-number-preserved
loop-number-preserved g c =
    let inv = c.loop-number.invariant in
    let moves = rw c.in-Ok-Some.field-0-is at c.in-Ok-Some.ensures.moves in
    let text = rw c.in-Ok-Some.field-0-is at c.in-Ok-Some.ensures.text in
    record {
      fixes = rw c.push_reserved.ensures.items (gives_more _ c.loop-number.reader c.next.new.self c.loop-number.fixes.items c.in-Ok-Some.fix inv.fixes
          c.in-Ok-Some.ensures.reads text moves.counted);
      count = omega (arith, inv.count, c.push_reserved.ensures.len);
      room = omega (arith, inv.room, c.push_reserved.ensures.capacity);
      limit = c.next.ensures.limit;
    }

pub returns-in-Err-clause-fixes : goal.returns-in-Err-clause-fixes
returns-in-Err-clause-fixes g c = search rules

pub returns-in-Err-clause-end : goal.returns-in-Err-clause-end
returns-in-Err-clause-end g c = search rules
