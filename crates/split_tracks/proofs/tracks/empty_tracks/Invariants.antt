use Rattle.std.proofs.Common.{◌≡◌, ◌≤◌, [], All, vec_len, vec_capacity}
use Rattle.split_tracks.proofs.tracks.empty_tracks.Given as goal

abbrev pub invariant-loop-made : goal.invariant-loop-made
invariant-loop-made g l = record {
  len : vec_len l.tracks ≡ l._made;
  room : l.count ≤ vec_capacity l.tracks;
  empty : All (λ track. track.items ≡ []) l.tracks.items;
}
