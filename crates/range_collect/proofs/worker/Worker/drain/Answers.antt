use Rattle.std.proofs.Common.{◌≡◌, ℕ, List, map, Contains, length, sym, subst, ap, ◌∙◌, refl, vec_len, ◌+◌, ◌*◌, rules}
use Rattle.std.proofs.lemmas.List.FromFn.{length-map-range_with_len}
use Rattle.std.proofs.lemmas.List.Sorted.{IsPermutation-refl}
use Rattle.std.specs.List.Sorted.{IsPermutation}
use Rattle.range_line.specs.declared.message.Message.{Message}
use Rattle.range_line.specs.LineEnds.{ended_feeder, ended_taker, files_from, AreOfLine, FeederView, IsAllTaken, TakerView}
use Rattle.range_line.specs.Messages.{of_file, IsLawful}
use Rattle.range_collect.specs.Work.{EachHolds}
use Rattle.range_collect.proofs.EstimatorStates.{ended_files, ended_twice, holds_sent}
use Rattle.range_lemmas.proofs.Indices.{map_length, of_all}
use Rattle.range_collect.proofs.worker.Worker.drain.Goals as goal

pub loop-init : goal.loop-init
loop-init g c =
    let view = c.self.view_is in
    record {
      line = subst (λ (t : TakerView). AreOfLine c.args.feeders.items t.line) (sym view) c.requires.line;
      order = c.requires.files ∙ ap (λ (t : TakerView). t.files) (sym view);
      feeders = refl;
      known = c.self.invariant.0;
      holds = c.self.invariant.1;
    }

pub settle-later-requires : goal.settle-later-requires
settle-later-requires g c =
    let inv = c.loop.invariant in
    record {
      line = inv.line;
      files = subst (λ (l : List ℕ). IsPermutation (map (λ (f : FeederView). f.file) c.loop.feeders.items) l) inv.order
          (IsPermutation-refl _);
    }

pub give-requires-clause-next : goal.give-requires-clause-next
give-requires-clause-next g c =
    let inv = c.loop.invariant in
    let n = c.self.inside.stride in
    let s = c.settle-later.ensures in
    let m : Message = c.in-Some-extra.message in
    let t = ap (λ (v : TakerView). v.taken) (s.taker ∙ ap (ended_taker c.loop.taker) c.in-Some-extra.is) in
    let files = inv.known ∙ ap (files_from n.first n.step) c.loop.estimators.ok.0 in
    λ κs live. (
      c.loop.taker.taken,
      record {
        of_line = subst (λ (l : List ℕ). Contains l m.file) files (rw c.in-Some-extra.is at s.of_line);
        lawful = subst (λ (ms : List Message). IsLawful ms m.file) t (s.lawful m.file);
        holds = inv.holds;
      },
    )

pub loop-preserved : goal.loop-preserved
loop-preserved g c =
    let inv = c.loop.invariant in
    let n = c.self.inside.stride in
    let s = c.settle-later.ensures in
    let taker = s.taker ∙ ap (ended_taker c.loop.taker) c.in-Some-extra.is in
    let files = ap (λ (v : TakerView). v.files) taker in
    let taken = ap (λ (v : TakerView). v.taken) taker in
    record {
      line = s.line;
      order = ap (map (λ (f : FeederView). f.file)) s.feeders ∙ (ended_files c.loop.feeders.items ∙ (inv.order ∙ sym files));
      feeders = ap (map ended_feeder) s.feeders ∙ (ended_twice c.loop.feeders.items ∙ inv.feeders);
      known = files ∙ (inv.known ∙ ap (files_from n.first n.step) (sym c.give.ensures.len));
      holds = subst (λ (ms : List Message). EachHolds n.first n.step ms c.give.new.estimators.items) (sym taken)
          (c.give.ensures.holds c.loop.taker.taken inv.holds);
    }

pub returns-in_default-clause-holds : goal.returns-in_default-clause-holds
returns-in_default-clause-holds g c = λ index f e in_feeders in_estimators.
    let inv = c.loop.invariant in
    let n = c.self.inside.stride in
    let s = c.settle-later.ensures in
    let fs = c.settle-later.result.feeders.items in
    let old : List Message = c.loop.taker.taken in
    let new : List Message = c.settle-later.result.taker.taken in
    let taken : new ≡ old = ap (λ (v : TakerView). v.taken) (s.taker ∙ ap (ended_taker c.loop.taker) c.in_default.is) in
    let all = of_all (λ (f : FeederView). IsAllTaken new f) fs index f (rw c.in_default.is at s.whole) in_feeders in
    let order = ap (map (λ (f : FeederView). f.file)) s.feeders ∙ (ended_files c.loop.feeders.items ∙ (inv.order ∙ inv.known)) in
    holds_sent n.first n.step (vec_len c.loop.estimators) old fs index f e order in_feeders (ap (λ (ms : List Message). of_file ms f.file) (sym taken) ∙ all)
    (inv.holds index e in_estimators)

pub returns-in_default-clause-count : goal.returns-in_default-clause-count
returns-in_default-clause-count g c =
    let inv = c.loop.invariant in
    let n = c.self.inside.stride in
    let s = c.settle-later.ensures in
    let order = ap (map (λ (f : FeederView). f.file)) s.feeders ∙ (ended_files c.loop.feeders.items ∙ (inv.order ∙ inv.known)) in
    let count : length (map (λ (f : FeederView). f.file) c.settle-later.result.feeders.items) ≡ vec_len c.loop.estimators =
    ap length order ∙ length-map-range_with_len (λ (j : ℕ). n.first + j * n.step) 0 (vec_len c.loop.estimators) in
    sym count ∙ (map_length (λ (f : FeederView). f.file) c.settle-later.result.feeders.items ∙ sym c.settle-later.result.feeders.ok.0)

pub returns-in_default-clause-feeders : goal.returns-in_default-clause-feeders
returns-in_default-clause-feeders g c = search rules
