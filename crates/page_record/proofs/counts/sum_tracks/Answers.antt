use Rattle.std.proofs.Common.{ℕ, Global, Vec, ◌≡◌, None, Option, Some, arith, refl, rules}
use Rattle.std.specs.Prelude.{slice_get}
use Rattle.split_tracks.specs.declared.fate.Reason.{Reason}
use Rattle.page_record.specs.Counts.{counted, counted_by}
use Rattle.page_record.specs.Reading.{track_seen}
use Rattle.page_record.specs.declared.record.Made.{Made}
use Rattle.page_record.proofs.Tracks.{sum_more}
use Rattle.page_record.proofs.counts.sum_tracks.Goals as goal
use Rattle.page_record.proofs.counts.sum_tracks.Goals.{in-Some, in_default}

same_count : (reason : Option Reason) (entry : Vec ℕ Global × Made) → counted_by reason (track_seen entry) ≡ counted reason entry.1
same_count None entry = refl
same_count (Some reason) entry = refl

pub loop-index-preserved : goal.loop-index-preserved
loop-index-preserved c =
    elim c.match-get_index.branch [
      | in-Some w ↦
          let entry : Vec ℕ Global × Made = (w.in-Some._name.now, w.in-Some.made.now) in
          let at : slice_get c.args.tracks.now.entries c.loop-index.index ≡ Some entry = search rules in
          let more = sum_more (counted_by c.args.reason) c.args.tracks.now.entries c.loop-index.index entry at in
          let own = same_count c.args.reason entry in
          record { sum = search (rules, more, own); small = omega (arith, c.loop-index.invariant.small, w.sum-is) }
      | in_default w ↦ absurd (search rules)
    ]
