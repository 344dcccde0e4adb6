use Rattle.std.proofs.Common.{length, ap, arith}
use Rattle.range_fixes.specs.Reading.{readings}
use Rattle.range_line.specs.LineEnds.{ended_feeder}
use Rattle.range_collect.specs.declared.followed.Followed.{Followed}
use Rattle.range_collect.proofs.LineResults.{files_of_line, line_followed, line_of_feeders, all_of_line, results_of_line}
use Rattle.range_lemmas.proofs.Indices.{map_length}
use Rattle.range_collect.proofs.line_threads.follow_line.Goals as goal

pub drain-feeders-requires-clause-line : goal.drain-feeders-requires-clause-line
drain-feeders-requires-clause-line g c = λ κs live. line_of_feeders _ _ _ _ _ _ _ c.in_ok-feeders.ensures

pub drain-feeders-requires-clause-files : goal.drain-feeders-requires-clause-files
drain-feeders-requires-clause-files g c = λ κs live. files_of_line _ _ _ _ _ _ _ c.in_ok-feeders.ensures

pub pair-requires-clause-counts : goal.pair-requires-clause-counts
pair-requires-clause-counts g c =
    let line = c.in_ok-feeders.field-0 in
    let counts = c.in_ok-feeders.ensures.counts in
    let d = c.drain-feeders in
    let ended = ap length d.ensures.feeders in
    let same = map_length ended_feeder line.feeders.items in (
      omega (arith, ended, same, counts.0, counts.1, d.result.0.ok.0, line.reads.ok.0),
      omega (arith, ended, same, counts.0, counts.1, d.ensures.count, d.result.0.ok.0, line.reads.ok.0),
    )

pub pair-requires-clause-results : goal.pair-requires-clause-results
pair-requires-clause-results g c =
    let line = c.in_ok-feeders.field-0 in
    let d = c.drain-feeders in
    results_of_line _ _ _ _ _ d.result.0.items line.reads.items _ d.result.1.items c.args.context.now.plan.within.0.0 c.in_ok-feeders.ensures d.ensures.feeders
    d.ensures.holds

pub returns : goal.returns
returns g c =
    let line = c.in_ok-feeders.field-0 in
    let is = c.in_ok-feeders.ensures in
    let d = c.drain-feeders in
    let p = c.in_ok-results.ensures in
    let results = c.in_ok-results.results.items in
    let told = ap length p.reads in
    let made = map_length (λ (f : Followed _ _). f.read) results in
    record {
      line = line.worker.line;
      begins = is.begins;
      of_line = all_of_line (λ (f : Followed _ _). f.feeder) (λ f. f.read) (λ f. f.estimator)
          (λ f. f.marked) line.worker.line line.feeders.items d.result.0.items results (line_of_feeders _ _ _ _ _ _ _ is) d.ensures.feeders p.feeders;
      count = omega (arith, told, made, is.counts.1);
      followed = line_followed (λ (f : Followed _ _). f.feeder) (λ f. f.read) (λ f. f.estimator)
          (λ f. f.marked) c.args.stride.first c.args.stride.step c.args.context.now.plan.block
          (readings g.S.Read.remaining c.args.context.now.plan.unit c.args.sources.items) line.feeders.items d.result.0.items
          line.reads.items line.worker d.result.1.items
          results
          is d.ensures.feeders d.ensures.holds p.feeders p.reads p.estimators p.seen;
    }
