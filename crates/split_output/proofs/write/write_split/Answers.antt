use Rattle.std.proofs.Common.{◌≡◌, ◌∙◌, [], ◌∷◌, ◌++◌, List, ℕ, codes, map, ap, subst, sym}
use Rattle.std.proofs.lemmas.List.{map-append}
use Rattle.std.proofs.lemmas.Simd.{map-map}
use Rattle.split_folder.specs.Fault.{IsOfNames, names_in}
use Rattle.split_folder.specs.Folder.{File}
use Rattle.split_folder.specs.declared.new_file.NewFile.{NewFile}
use Rattle.split_output.specs.Files.{file_of_records, file_of_track, files_of_tracks, names_of_files}
use Rattle.split_output.proofs.write.write_split.Goals as goal

-- the name of a file
abbrev name_of : File → List ℕ
name_of file = file.0

-- what is seen of a file that is handed in
abbrev seen : NewFile → File
seen file = (file.name.now, file.text.now)

pub returns-clause-told : goal.returns-clause-told
returns-clause-told g c =
    let files = c.in_ok-files.files.items in
    let tracks = map file_of_track (files_of_tracks c.args.split.now) in
    let records = file_of_records c.args.split.now in
    let last : File = (codes "split.txt", c.deref-2.result.now) in
    let named : names_in c.deref-3.result.now ≡ names_of_files c.args.split.now =
    ap names_in c.deref-3.ensures.value
    ∙ (sym (map-map name_of seen files)
    ∙ (ap (map name_of) c.in_ok-files.ensures
    ∙ (map-append name_of (tracks ++ records) (last ∷ [])
    ∙ ap (λ l. l ++ codes "split.txt" ∷ [])
    (map-append name_of tracks records ∙ ap (λ l. l ++ map name_of records) (map-map name_of file_of_track (files_of_tracks c.args.split.now)))))) in
    (c.in-Err.ensures.told, subst (λ names. IsOfNames names c.in-Err.fault) named c.in-Err.ensures.fault)
