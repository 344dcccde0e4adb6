-- What the two filters keep, in the words of the subject.
use Rattle.std.specs.Prelude.{◌≡◌, ◌+◌, ◌&&◌, ℕ, ℤ, Bool, true, not, ⊤, List, [], ◌∷◌, filter, map}
use Rattle.std.specs.List.{list_any}
use Rattle.std.specs.Ordering.{int_eq}
use Rattle.range_plane.specs.declared.scale.Scale.{Scale}
use Rattle.split_tracks.specs.declared.fate.Entry.{Entry}
use Rattle.split_tracks.specs.declared.fate.Fate.{Fate}
use Rattle.split_tracks.specs.declared.fate.Fate.TheVariants.{InTrack, LeftOut}
use Rattle.split_tracks.specs.Tracks.{tracks_of}
use Rattle.split_pace.specs.declared.filter.Filter.{Filter}
use Rattle.split_pace.specs.declared.speed.Speed.{Speed}
use Rattle.split_pace.specs.Every.{is_first}
use Rattle.split_pace.specs.Filters.{left_of, parted}
use Rattle.split_pace.specs.Leave.{is_among, passes, without}
use Rattle.split_pace.specs.Speed.{is_slow_enough, is_reached}

-- whether a used entry of some is in the same piece of time as another one
abbrev pub has_same_piece : (Entry → ℤ) → List Entry → Entry → Bool
has_same_piece piece before entry = list_any (λ other. other.is_used && int_eq (piece other) (piece entry)) before

-- of one fix in each piece: a used entry is kept exactly if no used entry before it in the track is in the same piece
abbrev pub OnlyFirstsAreKept : Type 0
OnlyFirstsAreKept = (piece : Entry → ℤ) (before : List Entry) (entry : Entry)
    → is_first piece (parted (is_first piece) before).kept entry ≡ not (has_same_piece piece before entry)

-- entries, the last one first, to each of which but the first the animal comes from the one before it
abbrev pub AreReached : Scale → Speed → List Entry → Type 0
AreReached unit speed [] = ⊤
AreReached unit speed (entry ∷ []) = ⊤
AreReached unit speed (entry ∷ before ∷ others) = (is_reached unit speed before entry ≡ true) × AreReached unit speed (before ∷ others)

-- of the greatest speed: the animal comes to each entry that is kept from the one that is kept before it
abbrev pub KeptAreReached : Type 0
KeptAreReached = (unit : Scale) (speed : Speed) (track : List Entry) → AreReached unit speed (parted (is_slow_enough unit speed) track).kept

-- the entry of a record that is in a track has the number of the record
abbrev pub IsNumbered : ℕ → Fate → Type 0
IsNumbered number (InTrack animal entry) = entry.«record» ≡ number
IsNumbered number (LeftOut animal why) = ⊤

-- the same of records that are numbered from this number on
abbrev pub AreNumbered : ℕ → List Fate → Type 0
AreNumbered number [] = ⊤
AreNumbered number (fate ∷ fates) = IsNumbered number fate × AreNumbered (number + 1) fates

-- the entries of a track that a filter does not leave out, in their order
abbrev pub stays_of : Filter → List Entry → List Entry
stays_of one track = filter (λ entry. not (is_among (left_of (passes one) track) entry.«record»)) track

-- once a filter leaves records out, the track of each animal has what the filter does not leave out of it, in the same order;
-- and records have their numbers still
abbrev pub TracksAreFiltered : Type 0
TracksAreFiltered = (one : Filter) (animals : ℕ) (fates : List Fate) → AreNumbered 1 fates
    → (tracks_of animals (without one animals fates) ≡ map (stays_of one) (tracks_of animals fates)) × AreNumbered 1 (without one animals fates)
