-- The files of tracks, one by one.
use Rattle.std.proofs.Common.{◌≡◌, ◌∙◌, ℕ, ◌+◌, ◌<◌, ◌≤◌, List, [], ◌∷◌, ◌++◌, Bor, Option, Some, None, filter_map, get_or, length, map, slice_get, take, refl, sym, ap}
use Rattle.std.proofs.lemmas.List.{append-nil, get_or-map, take_more}
use Rattle.std.proofs.lemmas.List.Elements.{filter_map-append}
use Rattle.std.proofs.lemmas.Option.{slice_get-map, slice_get_past, slice_get_read}
use Rattle.std.specs.List.{cons_option}
use Rattle.std.specs.Option.{option_map}
use Rattle.split_export.specs.Files.{Filed, filed}
use Rattle.split_export.specs.declared.files.TrackFile.{TrackFile}

-- what is seen of a track
abbrev pub filed_of : Bor TrackFile → Filed
filed_of track = filed track.now

-- what is found of one index more
chosen-push : {X : Type 0} (xs : List X) (indices : List ℕ) (k : ℕ) (found : Option X) → k < length indices → slice_get xs (get_or indices k 0) ≡ found
    → filter_map (slice_get xs) (take (k + 1) indices) ≡ filter_map (slice_get xs) (take k indices) ++ cons_option found []
chosen-push xs indices k found below is =
    ap (filter_map (slice_get xs)) (take_more indices k 0 below)
    ∙ (filter_map-append (slice_get xs) (take k indices) (get_or indices k 0 ∷ [])
    ∙ ap (λ one. filter_map (slice_get xs) (take k indices) ++ cons_option one []) is)

-- so of one that is there, and of one that is not
pub chosen-found : {X Y : Type 0} (f : X → Y) (xs : List X) (indices : List ℕ) (k : ℕ) (x : X) → k < length indices → get_or indices k 0 < length xs
    → x ≡ get_or xs (get_or indices k 0) x
    → filter_map (slice_get (map f xs)) (take (k + 1) indices) ≡ filter_map (slice_get (map f xs)) (take k indices) ++ f x ∷ []
chosen-found f xs indices k x below within is =
    let index = get_or indices k 0 in
    chosen-push (map f xs) indices k (Some (f x)) below (slice_get-map f xs index ∙ ap (option_map f) (slice_get_read xs (length xs) index x refl within is))

pub chosen-none : {X Y : Type 0} (f : X → Y) (xs : List X) (indices : List ℕ) (k : ℕ) → k < length indices → length xs ≤ get_or indices k 0
    → filter_map (slice_get (map f xs)) (take (k + 1) indices) ≡ filter_map (slice_get (map f xs)) (take k indices)
chosen-none f xs indices k below past =
    let index = get_or indices k 0 in
    chosen-push (map f xs) indices k None below (slice_get-map f xs index ∙ ap (option_map f) (slice_get_past xs index past))
    ∙ append-nil (filter_map (slice_get (map f xs)) (take k indices))

-- members of lists that are seen alike are seen alike
pub seen_alike : {X Y Z : Type 0} (f : X → Z) (g : Y → Z) (xs : List X) (ys : List Y) (k : ℕ) (x : X) (y : Y) → map f xs ≡ map g ys → k < length xs → k < length ys
    → x ≡ get_or xs k x → y ≡ get_or ys k y → f x ≡ g y
seen_alike f g xs ys k x y alike within below x_is y_is =
    ap f x_is
    ∙ (sym (get_or-map f xs k x (g y) within) ∙ (ap (λ l. get_or l k (g y)) alike ∙ (get_or-map g ys k y (g y) below ∙ ap g (sym y_is))))
