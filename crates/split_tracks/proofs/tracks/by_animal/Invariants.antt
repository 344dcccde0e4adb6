use Rattle.std.proofs.Common.{◌≡◌, map, take, vec_len}
use Rattle.split_tracks.specs.Tracks.{entries_by_animal}
use Rattle.split_tracks.proofs.tracks.by_animal.Given as goal

abbrev pub invariant-loop-fate : goal.invariant-loop-fate
invariant-loop-fate g l = record {
  count : vec_len l.tracks ≡ l.fn.animals;
  so_far : map (λ track. track.items) l.tracks.items ≡ entries_by_animal l.fn.animals (take l.fate-index l.fates);
}
