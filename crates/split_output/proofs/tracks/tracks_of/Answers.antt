use Rattle.std.proofs.Common.{◌≡◌, ◌∙◌, ◌<◌, ◌≤◌, List, [], ◌∷◌, ◌++◌, Bor, Vec, get_or, length, map, sym, ap, subst}
use Rattle.std.proofs.lemmas.List.{map-append}
use Rattle.split_export.specs.Files.{filed}
use Rattle.split_export.specs.declared.files.TrackFile.{TrackFile}
use Rattle.split_output.proofs.Chosen.{chosen-found, chosen-none}
use Rattle.split_output.proofs.tracks.tracks_of.Goals as goal
use Rattle.split_output.proofs.tracks.tracks_of.Goals.{in-Some+in_ok-push, in_default}

pub loop-animal-preserved : goal.loop-animal-preserved
loop-animal-preserved c =
    let inv = c.loop-animal.invariant in
    let order = c.deref-animal-items.result.now in
    let k = c.loop-animal.animal-index in
    let files = c.args.split.now.files.items in
    let same = c.deref.ensures.value in
    elim c.match-get.branch [
      | in-Some+in_ok-push w ↦
          let file = w.in-Some.file in
          let found = w.in-Some.ensures.lookup in
          let seen : map (λ (track : Bor TrackFile). filed track.now) c.match-get.tracks.items ≡ map (λ (track : Bor TrackFile). filed track.now) c.loop-animal.tracks.items ++ filed file.now ∷ [] =
          ap (λ (tracks : Vec (Bor TrackFile) _). map (λ (track : Bor TrackFile). filed track.now) tracks.items) w.tracks-is
          ∙ (ap (map (λ (track : Bor TrackFile). filed track.now)) w.in_ok-push.ensures.items ∙ map-append (λ (track : Bor TrackFile). filed track.now) c.loop-animal.tracks.items (file ∷ [])) in
          seen
          ∙ (ap (λ l. l ++ filed file.now ∷ []) inv
          ∙ sym (chosen-found filed files order k file.now c.loop-animal-test.true
          (subst (λ (l : List TrackFile). get_or order k 0 < length l) same found.3.0)
          (subst (λ (l : List TrackFile). file.now ≡ get_or l (get_or order k 0) file.now) same found.1)))
      | in_default w ↦
          rw w.tracks-is
          (inv ∙ sym (chosen-none filed files order k c.loop-animal-test.true
          (subst (λ (l : List TrackFile). length l ≤ get_or order k 0) same w.in_default.ensures.lookup.3)))
    ]
