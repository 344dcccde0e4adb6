-- The files of the folder of a split.
use Rattle.std.specs.Prelude.{ℕ, List, [], ◌∷◌, ◌++◌, codes, filter_map, map, option_to_list}
use Rattle.std.specs.List.{slice_get}
use Rattle.split_export.specs.Files.{Filed, filed}
use Rattle.split_folder.specs.Folder.{File}
use Rattle.split_chain.specs.Chain.{text_in}
use Rattle.split_chain.specs.declared.chain.Split.{Split}

-- the files of tracks, in the order of their animals
abbrev pub files_of_tracks : Split → List Filed
files_of_tracks split = filter_map (slice_get (map filed split.files.items)) split.order.items

-- the name of the file of a track, with what stands behind it for its kind
abbrev pub name_of_track : Filed → List ℕ
name_of_track file = file.name ++ codes ".csv"

-- a track as a file of the folder
abbrev pub file_of_track : Filed → File
file_of_track file = (name_of_track file, file.text)

-- what became of each record, as a file of the folder, where it is listed
abbrev pub file_of_records : Split → List File
file_of_records split = map (λ text. (codes "records.txt", text)) (option_to_list (text_in split.records))

-- the files of the folder: those of tracks in their order, then what became of each record, and last the record of tracks
abbrev pub files_of_split : Split → List ℕ → List File
files_of_split split text = map file_of_track (files_of_tracks split) ++ file_of_records split ++ (codes "split.txt", text) ∷ []

-- their names
abbrev pub names_of_files : Split → List (List ℕ)
names_of_files split = map name_of_track (files_of_tracks split) ++ map (λ file. file.0) (file_of_records split) ++ codes "split.txt" ∷ []
