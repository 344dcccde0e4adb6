use Rattle.std.proofs.Common.{sym, ◌∙◌}
use Rattle.split_export.proofs.TableFacts.{of_read}
use Rattle.split_export.proofs.export.read_export.Goals as goal

pub returns-clause-fault : goal.returns-clause-fault
returns-clause-fault g c =
    of_read c.args.asked.now c.args.text.now c.in-Ok.own c.has_commas-commas.result c.in-Ok-table.table c.read_table.result
    (sym c.text_fault.ensures ∙ c.in_default.is) c.in-Ok.ensures.text c.has_commas-commas.ensures c.in-Ok-table.ensures.table c.read_table.ensures.fault
