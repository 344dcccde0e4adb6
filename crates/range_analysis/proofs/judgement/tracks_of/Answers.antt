use Rattle.std.proofs.Common.{◌++◌, length, rules, arith, sym, ap, ◌∙◌, vec_len}
use Rattle.std.specs.Vec.Iter.{into_iter_items}
use Rattle.range_analysis.specs.Entries.{entries_of, entry_of, first_fault_from}
use Rattle.range_analysis.specs.Tracks.{entries_in}
use Rattle.range_analysis.proofs.Kept.{first_kept}
use Rattle.range_analysis.proofs.FileTracks.{fault_behind, entries_moved}
use Rattle.range_analysis.proofs.judgement.tracks_of.Goals as goal

pub loop-followed-init : goal.loop-followed-init
loop-followed-init c =
    let all = c.into_iter-followed-iterator.ensures.into_iter_gives.0 in
    let count = ap length all in
    record {
      room = search (rules, count);
      count = omega (arith, count, c.args.followed.ok.0, c.in_ok-tracks.ensures.len);
      whole = rw all c.requires.whole;
      entries = search rules;
      fault = search rules;
    }

pub track-requires : goal.track-requires
track-requires c =
    let kept = (first_kept _ c.in-Some.followed _ c.in-Some.ensures.steps.0 c.loop-followed.invariant.whole).0 in
    record { whole = (kept.marked, kept.running) }

pub loop-followed-preserved : goal.loop-followed-preserved
loop-followed-preserved c =
    let inv = c.loop-followed.invariant in
    let step = c.in-Some.ensures.steps.0 in
    let count = ap length step in
    let f = c.in-Some.followed in
    let push = c.push_reserved.ensures in
    let tracks = c.loop-followed.tracks in
    let entry = entry_of f.read f.estimator.fixes in
    let rest = entries_of (into_iter_items c.next.new.self) in
    let entries = ap entries_of step in
    record {
      room = omega (arith, count, inv.room, push.len, push.capacity);
      count = omega (arith, count, inv.count, push.len);
      whole = (first_kept _ f _ step inv.whole).1;
      entries = rw push.items (entries_moved tracks.items c.in-Ok.track entry rest _ c.in-Ok.ensures
          (ap (λ l. entries_in tracks.items ++ l) (sym entries) ∙ inv.entries));
      fault = fault_behind (vec_len tracks) _ entry rest _ _ c.in-Ok.ensures push.len ∙ (ap (first_fault_from (vec_len tracks)) (sym entries) ∙ inv.fault);
    }

pub returns-in-Err-clause-fault : goal.returns-in-Err-clause-fault
returns-in-Err-clause-fault c = search rules
