use Rattle.std.proofs.Common.{◌≡◌, ◌∙◌, ap}
use Rattle.rayon.proofs.ToStd.{slice-AllZip}
use Rattle.range_lemmas.proofs.Gathered.{IsResultOf, gathered}
use Rattle.range_report.specs.Parts.{text_of}
use Rattle.range_report.proofs.report_text.part_texts.Goals as goal

pub returns : goal.returns
returns g c =
    let parts = c.args.parts.now in
    let results = c.in_ok-collect.ensures in
    let base = ap (λ all. all.base.slice.now) c.map.ensures.base ∙ ap (λ all. all.slice.now) c.with_min_len.ensures.base ∙ c.par_iter.ensures in
    let each = slice-AllZip results.1.0 parts (results.1.1 ∙ base) (IsResultOf (λ part text. text.items ≡ text_of part)) results.0 results.1.2 in
    gathered (λ part text. text.items ≡ text_of part) parts results.0 c.in_ok-collect.field-0 each results.2
