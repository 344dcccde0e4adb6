use Rattle.std.proofs.Common.{◌≡◌, ◌+◌, ◌++◌, refl, get_or, ◌∙◌, ap, codes, decimal, arith}
use Rattle.range_estimator.specs.declared.row.Row.{Row}
use Rattle.range_report.specs.Report.{row_head, row_line, row_tail}
use Rattle.range_report.proofs.ListFacts.{row_parts}
use Rattle.range_report.proofs.NumberedLines.{lines_more}
use Rattle.range_report.proofs.report_lines.push_rows.Goals as goal

pub loop-i-preserved : goal.loop-i-preserved
loop-i-preserved g c =
    let none : Row = record { second = 0; corners = 0; area2 = 0 } in
    let row = get_or c.args.rows.now c.loop-i.i none in
    let name = c.args.name.now in
    let head : c.deref-in-loop-i.result.now ≡ row_head name = c.deref-in-loop-i.ensures.value ∙ c.in_ok-head.ensures in
    let number = c.args.from + c.loop-i.i + 1 in
    let start : c.set_row_number.new.start.items ≡ row_head name ++ decimal number ++ codes "," = rw head at c.in_ok-set_row_number.ensures in
    let next : number ≡ c.args.from + (c.loop-i.i + 1) = omega arith in
    let tail : c.deref-in-loop-i-3.result.now ≡ row_tail row = c.deref-in-loop-i-3.ensures.value ∙ c.in_ok-set_tail.ensures in
    let line = row_parts name number row c.loop-i.text.items c.push_row.new.text.items
    c.deref-in-loop-i-2.result.now c.deref-in-loop-i-3.result.now (c.deref-in-loop-i-2.ensures.value ∙ start) tail c.in_ok-push_row.ensures in
    record {
      lines = lines_more (row_line name) c.args.text.now.items c.loop-i.text.items c.push_row.new.text.items c.args.rows.now c.args.from c.loop-i.i
          row none c.loop-i-test.true refl c.loop-i.invariant.lines line;
      start = start ∙ ap (λ n. row_head name ++ decimal n ++ codes ",") next;
      tail = c.in_ok-set_tail.ensures;
    }
