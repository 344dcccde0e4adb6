use Rattle.range_report.proofs.PartCuts.{members_from}
use Rattle.range_report.proofs.report_text.some_of.Goals as goal

pub returns-clause-members : goal.returns-clause-members
returns-clause-members g c = members_from c.args.members.now c.args.from c.min.result c.min-2.result c.min.ensures c.min-2.ensures
