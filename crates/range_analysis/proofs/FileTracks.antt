-- Files that become tracks, one after the other.
use Rattle.std.proofs.Common.{◌≡◌, ℕ, ◌+◌, ◌<◌, get_or, arith, List, [], ◌∷◌, ◌++◌, length, map, Some, refl, sym, ap, ◌∙◌}
use Rattle.std.proofs.lemmas.List.{get_or-map, length-map}
use Rattle.range_plane.specs.declared.fix.Fix.{Fix}
use Rattle.range_analysis.specs.Names.{name_at}
use Rattle.range_analysis.specs.declared.track.Track.{Track}
use Rattle.range_analysis.specs.Entries.{Entry, of_animal, first_fault_from, names_of}
use Rattle.range_analysis.specs.Names.{IsFirstRepeat}
use Rattle.range_analysis.specs.Tracks.{entries_in}

-- the entries of the tracks so far, and of the files that are left
pub entries_moved : (tracks : List Track) (track : Track) (entry : Entry) (rest all : List Entry) → entry ≡ of_animal track.name track.estimator.fixes
    → entries_in tracks ++ entry ∷ rest ≡ all → entries_in (tracks ++ track ∷ []) ++ rest ≡ all
entries_moved [] track entry rest all is was = ap (λ e. e ∷ rest) (sym is) ∙ was
entries_moved (t ∷ tracks) track entry rest all is was = ap (λ l. of_animal t.name t.estimator.fixes ∷ l) (entries_moved tracks track entry rest _ is refl) ∙ was

-- where the file has an animal, the first fault is behind it
pub fault_behind : (number next : ℕ) (entry : Entry) (rest : List Entry) (name : List ℕ) (fixes : List Fix) → entry ≡ of_animal name fixes → next ≡ number + 1
    → first_fault_from next rest ≡ first_fault_from number (entry ∷ rest)
fault_behind number next entry rest name fixes is next_is = ap (λ n. first_fault_from n rest) next_is ∙ ap (λ e. first_fault_from number (e ∷ rest)) (sym is)

pub names_in : (tracks : List Track) → names_of (entries_in tracks) ≡ map (λ t. t.name) tracks
names_in [] = refl
names_in (t ∷ tracks) = ap (λ l. t.name ∷ l) (names_in tracks)

-- there are as many names as tracks
pub names_count : (tracks : List Track) → length (names_of (entries_in tracks)) ≡ length tracks
names_count tracks = ap length (names_in tracks) ∙ length-map tracks (λ t. t.name)

-- the name of the track at an index is the name there
pub name_is : (tracks : List Track) (index : ℕ) (track : Track) → index < length tracks → track ≡ get_or tracks index track
    → track.name ≡ name_at (names_of (entries_in tracks)) index
name_is tracks index track within is =
    ap (λ t. t.name) is ∙ (sym (get_or-map (λ (t : Track). t.name) tracks index track [] within) ∙ ap (λ l. get_or l index []) (sym (names_in tracks)))

-- there are as many entries as tracks
pub entries_count : (tracks : List Track) → length (entries_in tracks) ≡ length tracks
entries_count tracks = length-map tracks (λ t. of_animal t.name t.estimator.fixes)

-- a first repeat is of two tracks that there are
pub repeat_within : (tracks : List Track) (first second : ℕ) → IsFirstRepeat (names_of (entries_in tracks)) (Some (first, second)) → (first < length tracks)
    × (second < length tracks)
repeat_within tracks first second repeat =
    let count = names_count tracks in
    (omega (arith, count, repeat.0, repeat.1), omega (arith, count, repeat.1))
