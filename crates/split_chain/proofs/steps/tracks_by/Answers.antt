use Rattle.std.proofs.Common.{◌≡◌, ◌∙◌, ℕ, List, Vec, Global, length, map, ap, sym}
use Rattle.std.proofs.lemmas.List.{length-map}
use Rattle.split_tracks.specs.Tracks.{tracks_of}
use Rattle.split_tracks.specs.declared.fate.Entry.{Entry}
use Rattle.split_tracks.specs.declared.fate.Fate.{Fate}
use Rattle.split_chain.proofs.Tracks.{as_many_tracks}
use Rattle.split_chain.proofs.steps.tracks_by.Goals as goal

-- so many tracks
as_many : (animals : ℕ) (fates : List Fate) (tracks : List (Vec Entry Global)) → map (λ track. track.items) tracks ≡ tracks_of animals fates → length tracks ≡ animals
as_many animals fates tracks is =
    sym (length-map tracks (λ track. track.items))
    ∙ (ap length is ∙ as_many_tracks animals fates)

pub returns-in-Ok-tracks_of-clause-count : goal.returns-in-Ok-tracks_of-clause-count
returns-in-Ok-tracks_of-clause-count c =
    sym (as_many c.in-Ok.animals c.args.fates.now c.in-Ok-tracks_of.tracks.items c.in-Ok-tracks_of.ensures ∙ c.in-Ok.ensures.1)
