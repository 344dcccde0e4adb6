use Rattle.std.proofs.Common.{length, ◌∙◌}
use Rattle.rayon.proofs.ToStd.{slice-map}
use Rattle.range_analysis.specs.Overlaps.{points_of_each, row_of}
use Rattle.range_analysis.specs.Animals.{pairs}
use Rattle.range_analysis.proofs.AnimalPairs.{pairs_below}
use Rattle.range_analysis.proofs.overlap_rows.count_overlaps.Goals as goal

pub collect-requires-clause-ready : goal.collect-requires-clause-ready
collect-requires-clause-ready g c κs within =
    rw (c.map.ensures.base, c.map.ensures.f, c.with_min_len.ensures.base, c.par_iter.ensures, c.in_ok-pairs.ensures)
    (λ k d inside pair is. ((c.requires.files, (c.requires.known, rw is (pairs_below (length c.args.measured.now) k d inside))), λ row made. tt))

pub returns : goal.returns
returns g c =
    let measured = c.args.measured.now in
    let rows = c.in_ok-rows.ensures in
    let chain = rw (c.map.ensures.base, c.map.ensures.f, c.with_min_len.ensures.base) at rows.1 in
    c.new.ensures ∙ rows.2 ∙ slice-map chain.0 (pairs (length measured)) (chain.1 ∙ c.par_iter.ensures ∙ c.in_ok-pairs.ensures)
    (row_of (points_of_each measured)) rows.0 chain.2
