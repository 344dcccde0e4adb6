use Rattle.std.proofs.Common.{◌≡◌, ◌<◌, length, arith, sym, ◌∙◌, Bool, Decides}
use Rattle.std.specs.Str.{bytes_eq}
use Rattle.std.proofs.lemmas.Bool.{not-false, not-true}
use Rattle.std.proofs.lemmas.Slice.Eq.{bytes_eq-Decides}
use Rattle.range_analysis.specs.Entries.{names_of}
use Rattle.range_analysis.specs.Tracks.{entries_in}
use Rattle.range_analysis.proofs.Repeats.{Key, IsNext, repeat_found, seen_more, differ_more}
use Rattle.range_analysis.proofs.FileTracks.{name_is, names_count}
use Rattle.range_analysis.proofs.names.first_repeat.Goals as goal
use Rattle.range_analysis.proofs.names.first_repeat.Goals.{In_ok-first}

abbrev same : Key → Key → Bool
same x y = bytes_eq x.now y.now

decides : (x y : Key) → Decides (same x y) (x.now ≡ y.now)
decides x y = bytes_eq-Decides x.now y.now

next : (c : In_ok-first) → IsNext same decides (names_of (entries_in c.args.tracks.now)) c.loop-second.seen.keys c.loop-second.second c.as_slice.result
next c =
    let tracks = c.args.tracks.now in
    let count = names_count tracks in
    let within : c.loop-second.second < length tracks = omega arith in
    record {
      seen = c.loop-second.invariant.seen;
      within = omega (arith, count, within);
      next = c.as_slice.ensures ∙ name_is tracks c.loop-second.second c.index-tracks-second.result within c.index-tracks-second.is;
    }

pub returns-then-not-is_new : goal.returns-then-not-is_new
returns-then-not-is_new c =
    let h = c.in_ok-first.ensures in
    let old = not-false _ (sym h.added ∙ c.if-not-is_new.true) in
    let n = next (goal.at.returns-then-not-is_new c).In_ok-first in
    let found = repeat_found same decides _ _ _ _ n c.insert_full.new.self.keys c.in_ok-first.first h.stored.0 old h.keys h.stored.1 h.stored.2 in
    (found.0, n.within, found.1, c.loop-second.invariant.differ)

pub loop-second-preserved : goal.loop-second-preserved
loop-second-preserved c =
    let h = c.in_ok-first.ensures in
    let new = not-true _ (sym h.added ∙ c.if-not-is_new.false) in
    let n = next (goal.at.loop-second-preserved c).In_ok-first in
    record {
      seen = seen_more same decides _ _ _ _ n c.insert_full.new.self.keys new h.keys;
      differ = differ_more same decides _ _ _ _ n new c.loop-second.invariant.differ;
    }

pub returns : goal.returns
returns c i j before below =
    let count = names_count c.args.tracks.now in
    c.loop-second.invariant.differ i j before (omega (arith, count, below))
