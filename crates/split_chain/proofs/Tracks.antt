-- How many tracks there are.
use Rattle.std.proofs.Common.{◌≡◌, ◌∙◌, ℕ, List, length}
use Rattle.std.proofs.lemmas.List.{length-map}
use Rattle.std.proofs.lemmas.List.FromFn.{length-map-range_with_len}
use Rattle.split_tracks.specs.Tracks.{entries_by_animal, entries_of, in_order, tracks_of}
use Rattle.split_tracks.specs.declared.fate.Fate.{Fate}

-- there are as many tracks as animals
pub as_many_tracks : (animals : ℕ) (fates : List Fate) → length (tracks_of animals fates) ≡ animals
as_many_tracks animals fates = length-map (entries_by_animal animals fates) in_order ∙ length-map-range_with_len (entries_of fates) 0 animals
