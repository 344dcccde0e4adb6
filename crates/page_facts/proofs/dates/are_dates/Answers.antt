use Rattle.std.proofs.Common.{rules, sym}
use Rattle.std.proofs.lemmas.List.Folds.{list_all-map}
use Rattle.page_facts.specs.Dates.{has_dates}
use Rattle.page_report.specs.Reading.{said}
use Rattle.page_facts.proofs.dates.are_dates.Goals as goal

pub returns : goal.returns
returns c = search (rules, sym (list_all-map has_dates said c.args.report.now.animals.items))
