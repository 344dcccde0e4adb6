use Rattle.std.proofs.Common.{ap, length, ◌-◌, arith, length-append}
use Rattle.std.proofs.lemmas.Fmt.{decimal_nonempty}
use Rattle.range_report.proofs.LastDigit.{next_number}
use Rattle.range_report.proofs.report_lines.set_row_number.Goals as goal

pub overflow_sub-last : goal.overflow_sub-last
overflow_sub-last g c = omega (arith, simp length-append at (ap length c.requires), decimal_nonempty (c.args.n - 1))

pub returns-then-n-ne0 : goal.returns-then-n-ne0
returns-then-n-ne0 g c =
    let start = c.args.start.now in
    next_number c.args.head.now start.items c.args.n _ (omega arith) c.if-n-ne0.true (omega (arith, start.ok.0)) c.requires
