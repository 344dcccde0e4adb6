-- The files of tracks, one by one.
use Rattle.std.proofs.Common.{◌≡◌, ◌∙◌, ◌+◌, ◌<◌, ◌≤◌, ℕ, List, [], ◌∷◌, ◌++◌, length, map, drop, get_or, ap, sym, arith, add-one, append_assoc, append-nil, drop_of_length-le}
use Rattle.std.proofs.Math.Seq.{drop-cons}
use Rattle.std.proofs.lemmas.List.{get_or-map, length-map, map-append}
use Rattle.split_tracks.specs.declared.fate.Entry.{Entry}
use Rattle.split_fates.specs.declared.choice.Choice.{Choice}
use Rattle.split_export.specs.Files.{file_of, filed, files_of}
use Rattle.split_export.specs.declared.files.TrackFile.{TrackFile}

-- what is left from a place on begins with what comes of what stands there
pub left_from : {X Y : Type 0} (f : X → Y) (xs : List X) (i : ℕ) (x : X) → x ≡ get_or xs i x → i < length xs → drop i (map f xs) ≡ f x ∷ drop (i + 1) (map f xs)
left_from f xs i x is there =
    rw add-one (drop-cons (map f xs) i (f x) (omega (arith, there, length-map xs f)))
    ∙ ap (λ first. first ∷ drop (i + 1) (map f xs)) (get_or-map f xs i x (f x) there ∙ ap f (sym is))

-- nothing is left behind the last place
pub nothing_left : {X Y : Type 0} (f : X → Y) (xs : List X) (i : ℕ) → length xs ≤ i → drop i (map f xs) ≡ []
nothing_left f xs i end = drop_of_length-le (map f xs) (omega (arith, end, length-map xs f))

-- one file more
pub next_file : (choice : Choice) (done new : List TrackFile) (file : TrackFile) (name : List ℕ) (track : List Entry) (names : List (List ℕ)) (tracks : List (List Entry))
    → new ≡ done ++ file ∷ [] → filed file ≡ file_of choice name track
    → map filed done ++ files_of choice (name ∷ names) (track ∷ tracks) ≡ map filed new ++ files_of choice names tracks
unfolding files_of
next_file choice done new file name track names tracks is own =
    ap (λ f. map filed done ++ f ∷ files_of choice names tracks) (sym own)
    ∙ (sym (append_assoc (map filed done) (filed file ∷ []) (files_of choice names tracks))
    ∙ ap (λ l. l ++ files_of choice names tracks) (sym (ap (map filed) is ∙ map-append filed done (file ∷ []))))

-- and no more
pub no_files : (choice : Choice) (done : List TrackFile) (tracks : List (List Entry)) → map filed done ++ files_of choice [] tracks ≡ map filed done
unfolding files_of
no_files choice done tracks = append-nil (map filed done)
