-- Tracks by the names of their animals.
use Rattle.std.proofs.Common.{◌+◌, get_or, take, Some, ◌≡◌, ℕ, false, is_some, List, [], ◌∷◌, ◌++◌, map, refl, ap, inl, inr, arith}
use Rattle.std.specs.Prelude.{Vec, slice_get}
use Rattle.std.specs.List.{sum_by}
use Rattle.std.specs.Map.{lookup}
use Rattle.std.specs.Str.{bytes_eq}
use Rattle.std.proofs.lemmas.Bool.{cases_Bool, or_parts}
use Rattle.std.proofs.lemmas.List.{map-append, take_more}
use Rattle.std.proofs.lemmas.List.Sums.{sum_by-append}
use Rattle.std.proofs.lemmas.Option.{get_or_from_slice_get, slice_get_within}
use Rattle.indexmap.specs.IndexMap.{insert_entry}
use Rattle.page_record.specs.Counts.{made_in}
use Rattle.page_record.specs.Reading.{TrackSaid, has_track, track_seen, track_with}
use Rattle.page_record.specs.declared.record.Made.{Made}

-- the tracks of a map have an animal if the map does
pub found_any : {A : Type 0} (name : List ℕ) (entries : List (Vec ℕ A × Made)) → is_some (lookup (λ (key : Vec ℕ A). bytes_eq name key.items) entries) ≡ has_track name (map track_seen entries)
found_any name [] = refl
found_any {A} name (entry ∷ entries) =
    elim (cases_Bool (bytes_eq name entry.0.items)) [ inl is ↦ rw is refl | inr none ↦ rw none (found_any {A = A} name entries) ]

-- a new animal goes last
pub new_last : {A : Type 0} (key : Vec ℕ A) (made : Made) (entries : List (Vec ℕ A × Made)) → has_track key.items (map track_seen entries) ≡ false
    → map track_seen (insert_entry (λ (one other : Vec ℕ A). bytes_eq one.items other.items) entries key made) ≡ map track_seen entries ++ track_with key.items made ∷ []
new_last key made [] none = refl
new_last {A} key made (entry ∷ entries) none =
    let parts = or_parts (bytes_eq key.items entry.0.items) (has_track key.items (map track_seen entries)) none in
    rw parts.0 (ap (λ tracks. track_seen entry ∷ tracks) (new_last {A = A} key made entries parts.1))

-- what was made of an animal, by the entries of a map
pub found_made : {A : Type 0} (name : List ℕ) (entries : List (Vec ℕ A × Made)) → lookup (λ (key : Vec ℕ A). bytes_eq name key.items) entries ≡ made_in name (map track_seen entries)
found_made name [] = refl
found_made {A} name (entry ∷ entries) =
    elim (cases_Bool (bytes_eq name entry.0.items)) [ inl is ↦ rw is refl | inr none ↦ rw none (found_made {A = A} name entries) ]

-- the tracks of one entry more
pub one_track_more : {A : Type 0} (entries : List (Vec ℕ A × Made)) (index : ℕ) (entry : Vec ℕ A × Made) → slice_get entries index ≡ Some entry
    → map track_seen (take (index + 1) entries) ≡ map track_seen (take index entries) ++ track_seen entry ∷ []
one_track_more {A} entries index entry at =
    let within = slice_get_within entries index entry at in
    let is : get_or entries index entry ≡ entry = get_or_from_slice_get entries index entry entry at in
    rw (take_more entries index entry within, is, map-append (track_seen {A = A}) (take index entries) (entry ∷ [])) refl

-- a sum over tracks, of which one more is counted
pub sum_more : {A : Type 0} (f : TrackSaid → ℕ) (entries : List (Vec ℕ A × Made)) (index : ℕ) (entry : Vec ℕ A × Made) → slice_get entries index ≡ Some entry
    → sum_by f (map track_seen (take (index + 1) entries)) ≡ sum_by f (map track_seen (take index entries)) + f (track_seen entry)
sum_more {A} f entries index entry at =
    rw (one_track_more {A = A} entries index entry at, sum_by-append f (map track_seen (take index entries)) (track_seen entry ∷ [])) (omega arith)
