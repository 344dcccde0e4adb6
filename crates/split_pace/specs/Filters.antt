-- How a filter looks at the entries of a track, one after the other.
use Rattle.std.specs.Prelude.{ℕ, Bool, List, [], ◌∷◌, ◌++◌, map, fold, if◌then◌else◌}
use Rattle.split_tracks.specs.declared.fate.Entry.{Entry}

-- the used entries of a track: those that a filter keeps, the last one first, and those that it leaves out, in their order
pub record Parted : Type 0 where
  pub kept : List Entry
  pub left : List Entry

-- no entry yet
abbrev pub none_yet : Parted
none_yet = record { kept = []; left = [] }

-- one used entry more, which is kept if it passes beside those that are kept before it
abbrev pub with_used : (List Entry → Entry → Bool) → Parted → Entry → Parted
with_used passes parted entry =
    if passes parted.kept entry then record { kept = entry ∷ parted.kept; left = parted.left } else record { kept = parted.kept; left = parted.left ++ entry ∷ [] }

-- one entry more; one that is not used is passed over
abbrev pub with_entry : (List Entry → Entry → Bool) → Parted → Entry → Parted
with_entry passes parted entry = if entry.is_used then with_used passes parted entry else parted

-- how a filter parts a track
abbrev pub parted : (List Entry → Entry → Bool) → List Entry → Parted
parted passes track = fold (with_entry passes) none_yet track

-- the numbers of the records that it leaves out
abbrev pub left_of : (List Entry → Entry → Bool) → List Entry → List ℕ
left_of passes track = map (λ entry. entry.«record») (parted passes track).left
