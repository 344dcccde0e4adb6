use Rattle.std.proofs.Common.{◌≡◌, ◌∙◌, ℕ, ◌<◌, [], ◌∷◌, ◌++◌, Bor, List, codes, length, map, string_bytes, take, ap, ap₂, sym, arith}
use Rattle.std.proofs.lemmas.List.{length-map, map-append, take_all, take_more}
use Rattle.std.proofs.lemmas.Simd.{map-map}
use Rattle.split_export.specs.Files.{filed}
use Rattle.split_export.specs.declared.files.TrackFile.{TrackFile}
use Rattle.split_folder.specs.Fault.{files_in}
use Rattle.split_folder.specs.Folder.{File}
use Rattle.split_folder.specs.declared.new_file.NewFile.{NewFile}
use Rattle.split_output.specs.Files.{file_of_records, file_of_track, files_of_tracks, name_of_track}
use Rattle.split_output.proofs.Chosen.{filed_of, seen_alike}
use Rattle.split_output.proofs.files.files_of_split.Goals as goal

-- what is seen of a file that is handed in, and of the file of a track
abbrev seen : NewFile → File
seen file = (file.name.now, file.text.now)

abbrev name_of : Bor TrackFile → List ℕ
name_of track = name_of_track (filed track.now)

abbrev file_of : Bor TrackFile → File
file_of track = file_of_track (filed track.now)

pub loop-place-preserved : goal.loop-place-preserved
loop-place-preserved c =
    let inv = c.loop-place.invariant in
    let k = c.loop-place.place in
    let tracks = c.deref-track-items.result.now in
    let track = c.track-item.result in
    let names = c.args.names.now in
    let files = c.loop-place.files.items in
    let below = c.loop-place-test.true in
    let alike : map string_bytes names ≡ map name_of tracks =
    c.requires
    ∙ (ap (map name_of_track) (sym c.in_ok-tracks.ensures ∙ ap (map filed_of) (sym c.deref-track-items.ensures.value)) ∙ map-map name_of_track filed_of tracks) in
    let within : k < length names = omega (arith, below, ap length alike, length-map names string_bytes, length-map tracks name_of) in
    let named = c.as_str.ensures.value ∙ seen_alike string_bytes name_of names tracks k c.index-names-place.result track alike within below c.index-names-place.is c.track-item.is in
    ap files_in c.in_ok-push.ensures.items
    ∙ (map-append seen files (record { name = c.as_str.result; text = c.deref.result } ∷ [])
    ∙ (ap₂ (λ l (one : File). l ++ one ∷ []) inv (ap₂ (λ name text. (name, text)) named c.deref.ensures.value)
    ∙ sym (ap (map file_of) (take_more tracks k track below ∙ ap (λ one. take k tracks ++ one ∷ []) (sym c.track-item.is)) ∙ map-append file_of (take k tracks) (track ∷ []))))

pub returns : goal.returns
returns c =
    let tracks = c.deref-track-items.result.now in
    let files = c.loop-place.files.items in
    let tracked : files_in files ≡ map file_of_track (files_of_tracks c.args.split.now) =
    c.loop-place.invariant
    ∙ (ap (map file_of) (take_all c.loop-place.place tracks c.loop-place-test.false)
    ∙ (sym (map-map file_of_track filed_of tracks)
    ∙ ap (map file_of_track) (ap (map filed_of) c.deref-track-items.ensures.value ∙ c.in_ok-tracks.ensures))) in
    let listed : files_in c.push_records.new.files.items ≡ map file_of_track (files_of_tracks c.args.split.now) ++ file_of_records c.args.split.now =
    c.in_ok-push_records.ensures ∙ ap (λ l. l ++ file_of_records c.args.split.now) tracked in
    ap files_in c.in_ok-push-2.ensures.items
    ∙ (map-append seen c.push_records.new.files.items (_ ∷ [])
    ∙ ap (λ l. l ++ (codes "split.txt", c.args.text.now) ∷ []) listed)
