use Rattle.range_analysis.proofs.Tabled.{tabled}
use Rattle.range_analysis.proofs.judgement.judge.Goals as goal

pub returns-clause-judged : goal.returns-clause-judged
returns-clause-judged g c whole =
    let differ = rw (c.deref-2.ensures.value, c.in_default-2.is) at c.in_ok-first.ensures in
    tabled c.args.levels.now c.args.unit c.in_ok-tracks.tracks.items _ c.in_ok-analysis_of.field-0 c.in_ok-tracks.ensures.tracks c.in_ok-tracks.ensures.faultless differ
    c.in_ok-analysis_of.ensures.animals c.in_ok-analysis_of.ensures.overlaps c.in_ok-analysis_of.ensures.unit
