use Rattle.std.proofs.Common.{◌==◌, rules}
use Rattle.std.proofs.lemmas.List.Splits.{length-slice_split}
use Rattle.page_report.proofs.reading.parts_left.Goals as goal

pub returns : goal.returns
returns c =
    let all = length-slice_split (λ byte. byte == 10) c.args.text.now in
    search (rules)
