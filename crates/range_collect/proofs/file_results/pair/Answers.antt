use Rattle.std.proofs.Common.{◌≡◌, ◌++◌, [], length, map, sym, ap, ◌∙◌, arith, rules, suc, slice_get}
use Rattle.std.proofs.lemmas.List.{append-nil, nil_from_length}
use Rattle.std.proofs.lemmas.List.Elements.{All-push}
use Rattle.std.specs.Vec.Iter.{into_iter_items}
use Rattle.range_collect.specs.LineFiles.{IsSeen}
use Rattle.range_lemmas.proofs.Indices.{moved}
use Rattle.range_collect.proofs.file_results.pair.Goals as goal

pub loop-read-init : goal.loop-read-init
loop-read-init g c =
    let f = c.into_iter-feeders.ensures.rest in
    let r = c.into_iter-read-iterator.ensures.into_iter_gives.0 in
    let e = c.into_iter-estimators.ensures.rest in
    let lf = ap length f in
    let lr = ap length r in
    let le = ap length e in
    record {
      room = search (rules, lr);
      feeders_count = omega (arith, lf, lr, c.requires.counts.0, c.args.feeders.ok.0, c.args.reads.ok.0);
      estimators_count = omega (arith, le, lr, c.requires.counts.1, c.args.estimators.ok.0, c.args.reads.ok.0);
      results = rw (f, r, e) c.requires.results;
      feeders = search rules;
      reads = search rules;
      estimators = search rules;
      seen = search rules;
    }

pub loop-read-preserved : goal.loop-read-preserved
loop-read-preserved g c =
    let inv = c.loop-read.invariant in
    let all = c.loop-read.all.items in
    let f = c.in-Some-next.ensures.cases.0 in
    let r = c.in-Some.ensures.steps.0 in
    let e = c.in-Some-next-2.ensures.cases.0 in
    let lf = ap length f in
    let lr = ap length r in
    let le = ap length e in
    let one = c.followed.result in
    let made = c.followed.ensures.parts in
    let push = c.push_reserved.ensures in
    record {
      room = omega (arith, lr, inv.room, push.len, push.capacity);
      feeders_count = omega (arith, lf, lr, inv.feeders_count);
      estimators_count = omega (arith, le, lr, inv.estimators_count);
      results = λ index x y z in_f in_r in_e. inv.results (suc index) x y z (ap (λ l. slice_get l (suc index)) f ∙ in_f)
          (ap (λ l. slice_get l (suc index)) r ∙ in_r) (ap (λ l. slice_get l (suc index)) e ∙ in_e);
      feeders = rw push.items (moved (λ f. f.feeder) all one _ _ _ _ inv.feeders f made.0);
      reads = rw push.items (moved (λ f. f.read) all one _ _ _ _ inv.reads r made.1);
      estimators = rw push.items (moved (λ f. f.estimator) all one _ _ _ _ inv.estimators e made.2);
      seen = rw push.items (All-push (λ f. IsSeen f.feeder f.marked) all one inv.seen c.followed.ensures.seen);
    }

pub followed-requires : goal.followed-requires
followed-requires g c =
    let f = c.in-Some-next.ensures.cases.0 in
    let r = c.in-Some.ensures.steps.0 in
    let e = c.in-Some-next-2.ensures.cases.0 in
    record { result = c.loop-read.invariant.results 0 _ _ _ (ap (λ l. slice_get l 0) f) (ap (λ l. slice_get l 0) r) (ap (λ l. slice_get l 0) e) }

pub returns-clause-feeders : goal.returns-clause-feeders
returns-clause-feeders g c =
    let inv = c.loop-read.invariant in
    let none : length (into_iter_items c.loop-read.read-iterator) ≡ 0 = search rules in
    let left : into_iter_items c.loop-read.feeders ≡ [] = nil_from_length _ (inv.feeders_count ∙ none) in
    sym (append-nil _) ∙ (ap (λ l. map (λ f. f.feeder) c.loop-read.all.items ++ l) (sym left) ∙ inv.feeders)

pub returns-clause-reads : goal.returns-clause-reads
returns-clause-reads g c =
    let inv = c.loop-read.invariant in
    let none : length (into_iter_items c.loop-read.read-iterator) ≡ 0 = search rules in
    sym (append-nil _) ∙ (ap (λ l. map (λ f. f.read) c.loop-read.all.items ++ l) (sym (nil_from_length _ none)) ∙ inv.reads)

pub returns-clause-estimators : goal.returns-clause-estimators
returns-clause-estimators g c =
    let inv = c.loop-read.invariant in
    let none : length (into_iter_items c.loop-read.read-iterator) ≡ 0 = search rules in
    let left : into_iter_items c.loop-read.estimators ≡ [] = nil_from_length _ (inv.estimators_count ∙ none) in
    sym (append-nil _) ∙ (ap (λ l. map (λ f. f.estimator) c.loop-read.all.items ++ l) (sym left) ∙ inv.estimators)
