use Rattle.std.proofs.Common.{◌≡◌, ℕ, zero, suc, ◌+◌, ◌<◌, List, [], ◌∷◌, ◌++◌, All, Vec, Some, map, take, set, get_or, slice_get, length, refl, sym, ap, subst, ◌∙◌, arith}
use Rattle.std.proofs.lemmas.List.{map-set, take_more}
use Rattle.std.proofs.lemmas.Option.{slice_get_read}
use Rattle.range_lemmas.proofs.Indices.{map_length, mapped, range_at}
use Rattle.split_tracks.specs.declared.fate.Entry.{Entry}
use Rattle.split_tracks.specs.declared.fate.Fate.{Fate}
use Rattle.split_tracks.specs.Tracks.{entries_by_animal, entries_of}
use Rattle.split_tracks.proofs.Entries.{entry_more, left_out_more, none_yet, other_more}
use Rattle.split_tracks.proofs.tracks.by_animal.Goals as goal
use Rattle.split_tracks.proofs.tracks.by_animal.Goals.{in-InTrack+then-animal-animals+in_ok-push-in-InTrack, in-InTrack+else-animal-animals, in-LeftOut}

-- what a function gives of each member of a list of which all members give this
all_give : {X : Type 0} (f : X → List Entry) (xs : List X) → All (λ x. f x ≡ []) xs → (k : ℕ) → k < length xs → get_or (map f xs) k [] ≡ []
all_give f [] all k below = absurd (omega (arith, below))
all_give f (x ∷ xs) all zero below = all zero x (omega arith)
all_give f (x ∷ xs) all (suc k) below = all_give f xs (λ i d b. all (suc i) d (omega (arith, b))) k (omega (arith, below))

pub loop-fate-init : goal.loop-fate-init
loop-fate-init g c =
    let tracks = c.in_ok-tracks.tracks.items in
    let long = map_length (λ (track : Vec _ _). track.items) tracks in
    record {
      count = c.in_ok-tracks.ensures.count;
      so_far = none_yet c.args.animals (map (λ track. track.items) tracks) (omega (arith, long, c.in_ok-tracks.ensures.count, c.in_ok-tracks.tracks.ok.0))
          (λ k below. all_give (λ track. track.items) tracks c.in_ok-tracks.ensures.empty k (omega (arith, below, c.in_ok-tracks.ensures.count, c.in_ok-tracks.tracks.ok.0)));
    }

pub loop-fate-preserved : goal.loop-fate-preserved
loop-fate-preserved g c =
    let inv = c.loop-fate.invariant in
    let fates = c.args.fates.now in
    let k = c.loop-fate.fate-index in
    let before = c.loop-fate.tracks.items in
    elim c.match-fate.branch [
      | in-InTrack+then-animal-animals+in_ok-push-in-InTrack w ↦
          let a = w.in-InTrack.animal in
          let more : take (k + 1) fates ≡ take k fates ++ _ ∷ [] = take_more fates k _ c.loop-fate-test.true ∙ ap (λ (f : Fate). take k fates ++ f ∷ []) w.in-InTrack.is in
          let own = w.index_mut.result.now in
          let within : a < length before = omega (arith, w.if-animal-animals.true, inv.count, c.loop-fate.tracks.ok.0) in
          let there : slice_get before a ≡ Some own = slice_get_read before (length before) a own refl within w.index_mut.ensures.value in
          let listed : slice_get (entries_by_animal c.args.animals (take k fates)) a ≡ Some own.items =
          subst (λ l. slice_get l a ≡ Some own.items) inv.so_far (mapped (λ track. track.items) before a own there) in
          let entries = (range_at (entries_of (take k fates)) c.args.animals a own.items listed).1 in
          rw w.tracks-is (record {
            count = inv.count;
            so_far = map-set (λ track. track.items) before a w.push.new.self
                ∙ (ap (λ l. set l a w.push.new.self.items) inv.so_far
                ∙ (ap (λ l. set (entries_by_animal c.args.animals (take k fates)) a l) (w.in_ok-push-in-InTrack.ensures.items ∙ ap (λ l. l ++ w.in-InTrack.entry ∷ []) entries)
                ∙ (entry_more c.args.animals (take k fates) a w.in-InTrack.entry w.if-animal-animals.true ∙ ap (entries_by_animal c.args.animals) (sym more))));
          })
      | in-InTrack+else-animal-animals w ↦
          let more : take (k + 1) fates ≡ take k fates ++ _ ∷ [] = take_more fates k _ c.loop-fate-test.true ∙ ap (λ (f : Fate). take k fates ++ f ∷ []) w.in-InTrack.is in
          rw w.tracks-is (record {
            count = inv.count;
            so_far = inv.so_far ∙ (other_more c.args.animals (take k fates) w.in-InTrack.animal w.in-InTrack.entry w.if-animal-animals.false
                ∙ ap (entries_by_animal c.args.animals) (sym more));
          })
      | in-LeftOut w ↦
          let more : take (k + 1) fates ≡ take k fates ++ _ ∷ [] = take_more fates k _ c.loop-fate-test.true ∙ ap (λ (f : Fate). take k fates ++ f ∷ []) w.in-LeftOut.is in
          rw w.tracks-is (record {
            count = inv.count;
            so_far = inv.so_far ∙ (left_out_more c.args.animals (take k fates) _ _ ∙ ap (entries_by_animal c.args.animals) (sym more));
          })
    ]
