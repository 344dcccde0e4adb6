use Rattle.std.proofs.Common.{ℕ, Global, Vec, ◌≡◌, ◌<◌, ◌^◌, length, map, take, Some, arith, rules, take_all}
use Rattle.std.proofs.lemmas.List.{length-map, length-take-le}
use Rattle.std.specs.Prelude.{slice_get}
use Rattle.page_record.specs.Counts.{IsTallyOf, left_of, records_of}
use Rattle.page_record.specs.Reading.{left_seen, track_seen}
use Rattle.page_record.specs.declared.record.Made.{Made}
use Rattle.page_record.proofs.Counting.{have_room, track_counted}
use Rattle.page_record.proofs.Tracks.{one_track_more}
use Rattle.page_record.proofs.counts.tally.Goals as goal
use Rattle.page_record.proofs.counts.tally.Goals.{in-Some+in_ok-add_track, in_default}

pub add_track-requires : goal.add_track-requires
add_track-requires c =
    let left = c.args.own.now.left.items in
    let entries = c.args.own.now.tracks.entries in
    let few_left : length (map left_seen left) < 2 ^ 64 = omega (arith, length-map left left_seen, c.tally_left.ensures.few) in
    let few_tracks : length (map track_seen (take c.loop-index.index entries)) < 2 ^ 64 = omega (arith, length-map (take c.loop-index.index entries) track_seen, length-take-le c.loop-index.index entries) in
    have_room (length (map left_seen left)) (length (map track_seen (take c.loop-index.index entries))) _ few_left few_tracks (c.loop-index.invariant.small c.deref-in-Some.result.now)

pub loop-index-preserved : goal.loop-index-preserved
loop-index-preserved c =
    let entries = c.args.own.now.tracks.entries in
    elim c.match-get_index.branch [
      | in-Some+in_ok-add_track w ↦
          let entry : Vec ℕ Global × Made = (w.in-Some.name.now, w.in-Some.made.now) in
          let at : slice_get entries c.loop-index.index ≡ Some entry = search rules in
          rw (w.table-is, one_track_more entries c.loop-index.index entry at)
          (track_counted (map left_seen c.args.own.now.left.items) (map track_seen (take c.loop-index.index entries)) (track_seen entry) c.loop-index.table.entries w.add_track.new.table.entries
          c.loop-index.invariant w.add_track.ensures.small (search rules))
      | in_default w ↦ absurd (search rules)
    ]

pub returns : goal.returns
unfolding left_of records_of
returns c =
    let entries = c.args.own.now.tracks.entries in
    let all : IsTallyOf (map left_seen c.args.own.now.left.items) (map track_seen entries) c.loop-index.table.entries = rw (take_all c.loop-index.index entries (omega arith)) at c.loop-index.invariant in
    record { records = all.records; left = all.left_out }
