use Rattle.std.proofs.Common.{◌≡◌, refl, sym, subst, Some, None}
use Rattle.page_report.specs.Fields.{cut}
use Rattle.page_report.proofs.Parts.{IsFirst, cut_parts}
use Rattle.page_report.proofs.reading.line_of.Goals as goal

pub returns-in-Some-clause-line : goal.returns-in-Some-clause-line
returns-in-Some-clause-line c =
    let found : Some (c.in-Some.line.now, c.in-Some.behind.now) ≡ cut 10 c.args.text.now = rw c.in-Some.is at c.cut.ensures.parts in
    (subst (λ found. IsFirst c.args.text.now found) (sym found) (cut_parts c.args.text.now)).0

pub returns-in-Some-clause-more : goal.returns-in-Some-clause-more
returns-in-Some-clause-more c =
    let found : Some (c.in-Some.line.now, c.in-Some.behind.now) ≡ cut 10 c.args.text.now = rw c.in-Some.is at c.cut.ensures.parts in
    (subst (λ found. IsFirst c.args.text.now found) (sym found) (cut_parts c.args.text.now)).1

pub returns-in-None-clause-fault : goal.returns-in-None-clause-fault
returns-in-None-clause-fault c =
    let found : None ≡ cut 10 c.args.text.now = rw c.in-None.is at c.cut.ensures.parts in
    (refl, subst (λ found. IsFirst c.args.text.now found) (sym found) (cut_parts c.args.text.now))
