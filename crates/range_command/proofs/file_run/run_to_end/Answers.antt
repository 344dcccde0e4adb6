use Rattle.range_command.proofs.RunSources.{of_finish, on_ok, report_begun, report_kept}
use Rattle.range_command.proofs.file_run.run_to_end.Goals as goal

pub returns-clause-report : goal.returns-clause-report
returns-clause-report g c = on_ok c.or.result (report_kept _ _ _ _ _ _ c.in_ok-run_with_gate.ensures.report c.finish.ensures.bytes)

pub returns-clause-prefix : goal.returns-clause-prefix
returns-clause-prefix g c = λ _. report_begun _ _ _ _ _ (report_kept _ _ _ _ _ _ c.in_ok-run_with_gate.ensures.report c.finish.ensures.bytes)

pub returns-clause-fault : goal.returns-clause-fault
returns-clause-fault g c =
    let written = c.in_ok-run_with_gate.ensures.report in
    of_finish _ c.finish.result c.or.result c.or.ensures (written.0, written.1)
