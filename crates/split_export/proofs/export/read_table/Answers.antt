use Rattle.std.proofs.Common.{◌∙◌}
use Rattle.split_export.proofs.TableFacts.{exported, unread}
use Rattle.split_export.proofs.export.read_table.Goals as goal

pub returns-in-Ok-ledger_by-clause-export : goal.returns-in-Ok-ledger_by-clause-export
returns-in-Ok-ledger_by-clause-export g c =
    exported c.args.asked.now c.args.has_commas c.args.text c.args.table.now.titles c.args.table.now.left c.in-Ok.titles c.in-Ok-columns_of.columns c.in-Ok-ledger_by.ledger
    (c.in-Ok.ensures ∙ c.titles.ensures)
    (rw c.deref-2.ensures.value at c.in-Ok-ledger_by.ensures.ledger)
    c.in-Ok-ledger_by.ensures.timely

pub returns-clause-fault : goal.returns-clause-fault
returns-clause-fault g c =
    unread c.args.asked.now c.args.has_commas c.args.table.now.titles c.args.table.now.left c.in-Ok.titles.items c.in-Ok-columns_of.columns c.in-Err-ledger_by.fault
    (c.in-Ok.ensures ∙ c.titles.ensures)
    (rw c.deref-2.ensures.value at c.in-Err-ledger_by.ensures.fault)
