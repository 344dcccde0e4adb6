use Rattle.std.proofs.Common.{refl}
use Rattle.range_run.proofs.Written.{explained, writes_prefix, writes_report}
use Rattle.range_run.proofs.report_run.run_with_gate.Goals as goal

pub returns-in-Err-clause-unwritten : goal.returns-in-Err-clause-unwritten
returns-in-Err-clause-unwritten g c = λ _. refl

pub returns-clause-report : goal.returns-clause-report
returns-clause-report g c =
    writes_report _ _ _ _ _ _ _ c.in-Ok.analysis _ refl c.in-Ok-report_parts.ensures c.in-Ok.ensures.analysis
    c.write_parts.ensures.whole

pub returns-clause-prefix : goal.returns-clause-prefix
returns-clause-prefix g c =
    writes_prefix _ _ _ _ _ _ _ c.in-Ok.analysis _ _ refl c.in-Ok-report_parts.ensures c.in-Ok.ensures.analysis
    c.write_parts.ensures.prefix

pub returns-in_default-clause-fault : goal.returns-in_default-clause-fault
returns-in_default-clause-fault g c =
    (c.in-Ok.analysis, c.in-Ok.ensures.analysis)

pub returns-clause-fault : goal.returns-clause-fault
returns-clause-fault g c =
    explained _ _ _ _ c.in-Ok.analysis _ refl c.in-Ok.ensures.analysis c.write_parts.ensures.fault

pub returns-in-Err-clause-fault : goal.returns-in-Err-clause-fault
returns-in-Err-clause-fault g c = c.in-Err.ensures.fault
