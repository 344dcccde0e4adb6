use Rattle.std.proofs.Common.{◌≡◌, ℕ, ◌+◌, ◌*◌, length, map, ap, sym, ◌∙◌, arith, refl}
use Rattle.std.proofs.lemmas.List.Elements.{All-map}
use Rattle.std.proofs.lemmas.List.FromFn.{length-map-range_with_len}
use Rattle.range_fixes.specs.Reading.{reading_from, readings}
use Rattle.range_line.specs.LineEnds.{files_from, first_file, new_feeder, Line, TakerView}
use Rattle.range_collect.specs.Fresh.{IsNew}
use Rattle.range_collect.proofs.LineResults.{pumped_at}
use Rattle.range_lemmas.proofs.Indices.{map_length}
use Rattle.range_collect.proofs.line_run.run_in_scope.Goals as goal

pub start_pumps-started-requires-clause-feeders : goal.start_pumps-started-requires-clause-feeders
start_pumps-started-requires-clause-feeders g c = λ κs live.
    rw c.in_ok-feeders.ensures.feeders (All-map IsNew (new_feeder c.in_ok-feeders.taker.line)
    (files_from c.args.stride.first c.args.stride.step c.len-count.result) (λ k d below. (refl, refl, refl)))

pub start_pumps-started-requires-clause-count : goal.start_pumps-started-requires-clause-count
start_pumps-started-requires-clause-count g c = λ κs live.
    let n = c.args.stride in
    let files = files_from n.first n.step c.len-count.result in
    let same = ap length c.in_ok-feeders.ensures.feeders in
    let one = map_length (new_feeder c.in_ok-feeders.taker.line) files in
    let two = length-map-range_with_len (λ (j : ℕ). n.first + j * n.step) 0 c.len-count.result in
    omega (arith, same, one, two, c.len-count.ensures, c.in_ok-feeders.feeders.ok.0)

pub returns : goal.returns
returns g c =
    let n = c.args.stride in
    let count : ℕ = c.len-count.result in
    let bytes = readings g.S.Read.remaining c.args.context.now.plan.unit c.args.sources.items in
    let worker : TakerView = c.work-worker.result in
    let handles = c.start_pumps-started.new.handles.items in
    let started = c.in_default.ensures in
    let joined = c.join_pumps-2.ensures in
    let back = c.join_pumps-2.new.feeders in
    let reads = c.join_pumps-2.new.reads in
    let told = map_length (reading_from g.S.Read.remaining c.args.context.now.plan.unit) c.args.sources.items in
    let made = map_length (λ h. h.promise.source.value) handles in
    let same = ap length started.sources in
    let taker = c.in_ok-worker.ensures ∙ c.in_ok-feeders.ensures.taker in
    let line : worker.line ≡ c.in_ok-feeders.taker.line = c.work-worker.ensures.line.0 ∙ ap (λ (t : TakerView). t.line) c.in_ok-worker.ensures in
    record {
      counts = (
        omega (arith, told, made, same, joined.counts.0, back.ok.0, c.start_pumps-started.new.handles.ok.0),
        omega (arith, told, made, same, joined.counts.1, reads.ok.0, c.start_pumps-started.new.handles.ok.0),
      );
      files = c.work-worker.ensures.line.1 ∙ (ap (λ (t : TakerView). t.files) taker
          ∙ ap (files_from n.first n.step) (omega (arith, told, c.len-count.ensures, c.args.sources.ok.0)));
      begins = ap first_file line ∙ c.in_ok-feeders.ensures.line;
      pumped = pumped_at (reading_from g.S.Read.remaining) (λ h. h.promise.source.value) (λ h. h.promise.feeder.value)
          (λ h. h.promise.plan) worker.line n.first n.step count c.args.context.now.plan
          handles c.args.sources.items c.in_ok-feeders.feeders.items back.items reads.items started.sources started.feeders
          (c.in_ok-feeders.ensures.feeders ∙ ap (λ (l : Line). map (new_feeder l) (files_from n.first n.step count)) (sym line))
          started.plans (omega (arith, joined.counts.0, back.ok.0, c.start_pumps-started.new.handles.ok.0)) joined.pumped;
    }
