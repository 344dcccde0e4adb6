-- The files of tracks.
use Rattle.std.specs.Prelude.{ℕ, List, [], ◌∷◌, length, map, Vec}
use Rattle.std.specs.List.{count_by}
use Rattle.split_files.specs.TrackText.{text_of}
use Rattle.split_tracks.specs.declared.fate.Entry.{Entry}
use Rattle.split_fates.specs.Marked.{fix_at}
use Rattle.split_fates.specs.declared.choice.Choice.{Choice}
use Rattle.split_export.specs.declared.files.TrackFile.{TrackFile}

-- a file: its name and its text, how many records it has, and how many of these are used
pub record Filed : Type 0 where
  pub name : List ℕ
  pub text : List ℕ
  pub records : ℕ
  pub used : ℕ

-- what is seen of a file
abbrev pub filed : TrackFile → Filed
filed file = record { name = file.name.items; text = file.text.items; records = file.records; used = file.used }

-- the file of a track, with the name of its animal
abbrev pub file_of : Choice → List ℕ → List Entry → Filed
file_of choice name track = record {
  name = name;
  text = text_of choice.keeps_marks name (map (fix_at choice.shift) track);
  records = length track;
  used = count_by (λ entry. entry.is_used) track;
}

-- the files of tracks with these names, in their order
unfoldable pub files_of : Choice → List (List ℕ) → List (List Entry) → List Filed
files_of choice [] tracks = []
files_of choice (name ∷ names) [] = []
files_of choice (name ∷ names) (track ∷ tracks) = file_of choice name track ∷ files_of choice names tracks

-- the entries of tracks
abbrev pub entries_of_all : {A : Type 0} → List (Vec Entry A) → List (List Entry)
entries_of_all tracks = map (λ track. track.items) tracks
