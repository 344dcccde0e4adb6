use Rattle.std.proofs.Common.{List, subst, ◌∙◌}
use Rattle.std.specs.List.{AllZip}
use Rattle.range_lemmas.proofs.Gathered.{IsResultOf, gathered}
use Rattle.range_analysis.specs.Tracks.{IsMeasuredOf}
use Rattle.range_analysis.specs.declared.track.Track.{Track}
use Rattle.range_analysis.proofs.analysis.measure_all.Goals as goal

pub returns : goal.returns
returns g c =
    let levels = c.args.levels.now in
    let results = c.in_ok-collect.ensures in
    let chain = rw (c.map.ensures.base, c.map.ensures.f, c.with_min_len.ensures.base) at results.1 in
    let each = subst (λ (tracks : List Track). AllZip (IsResultOf (IsMeasuredOf levels)) tracks results.0) (chain.1 ∙ c.into_par_iter.ensures) chain.2 in
    gathered (IsMeasuredOf levels) c.args.tracks.items results.0 c.in_ok-collect.field-0 each results.2
