use Rattle.std.proofs.Common.{◌<◌, Vec, map, set, get_or, length, sym, ap, ◌∙◌, arith}
use Rattle.std.proofs.lemmas.List.{get_or-map, map-set}
use Rattle.std.proofs.lemmas.List.Edits.{map_over_more}
use Rattle.range_lemmas.proofs.Indices.{map_length}
use Rattle.split_tracks.specs.Tracks.{in_order}
use Rattle.split_tracks.proofs.tracks.put_all_in_order.Goals as goal

pub loop-track-preserved : goal.loop-track-preserved
loop-track-preserved g c =
    let tracks = c.loop-track.track-items in
    let all = map (λ (track : Vec _ _). track.items) c.args.tracks.now.items in
    let k = c.loop-track.track-index in
    let track = get_or tracks k c.track-item.result in
    let long = map_length (λ (track : Vec _ _). track.items) c.args.tracks.now.items in
    let there : k < length tracks = omega (arith, c.loop-track-test.true, c.loop-track.auto.track-items) in
    let within : k < length all = omega (arith, c.loop-track-test.true, c.deref_mut-track-items.ensures.len, c.args.tracks.now.ok.0, long) in
    map-set (λ track. track.items) tracks k c.put_in_order.new.track
    ∙ (ap (λ l. set (map (λ track. track.items) tracks) k l) c.in_ok-put_in_order.ensures
    ∙ map_over_more in_order all (map (λ track. track.items) tracks) k track.items within c.loop-track.invariant
    (sym (get_or-map (λ track. track.items) tracks k c.track-item.result track.items there)))
