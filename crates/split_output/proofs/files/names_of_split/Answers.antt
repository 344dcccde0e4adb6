use Rattle.std.proofs.Common.{◌≡◌, ◌∙◌, ℕ, ◌<◌, Bor, List, get_or, length, map, ap, sym, arith}
use Rattle.std.proofs.lemmas.List.{get_or-map, length-map, take_all}
use Rattle.std.proofs.lemmas.Simd.{map-map}
use Rattle.split_chain.specs.declared.chain.Split.{Split}
use Rattle.split_export.specs.Files.{Filed, filed}
use Rattle.split_export.specs.declared.files.TrackFile.{TrackFile}
use Rattle.split_output.specs.Files.{files_of_tracks, name_of_track}
use Rattle.split_output.specs.Write.{IsOfName, IsOfNames}
use Rattle.split_output.specs.declared.fault.OutputFault.{OutputFault}
use Rattle.split_output.specs.declared.fault.OutputFault.TheVariants as faults
use Rattle.split_output.proofs.Chosen.{filed_of}
use Rattle.split_output.proofs.files.names_of_split.Goals as goal

-- the name of the file of a track
abbrev name_of : Bor TrackFile → List ℕ
name_of track = name_of_track (filed track.now)

-- a fault of the name of one file is one of all
of_one : (split : Split) (k : ℕ) (file : Filed) (fault : OutputFault) → k < length (files_of_tracks split) → get_or (files_of_tracks split) k file ≡ file → IsOfName file.name fault
    → IsOfNames split fault
of_one split k file faults.OutOfMemory below is of = tt
of_one split k file faults.NoText below is of = (k, file, below, is, of)
of_one split k file (faults.Folder fault) below is of = absurd of

pub returns-in-Err-clause-fault : goal.returns-in-Err-clause-fault
returns-in-Err-clause-fault c =
    let split = c.args.split.now in
    let tracks = c.deref-track-items.result.now in
    let track = c.track-item.result in
    let k = c.loop-track.track-index in
    let all : map filed_of tracks ≡ files_of_tracks split = ap (map filed_of) c.deref-track-items.ensures.value ∙ c.in_ok-tracks.ensures in
    let below = c.loop-track-test.true in
    of_one split k (filed_of track) c.in-Err.fault (omega (arith, below, ap length all, length-map tracks filed_of))
    (ap (λ l. get_or l k (filed_of track)) (sym all) ∙ (get_or-map filed_of tracks k track (filed_of track) below ∙ ap filed_of (sym c.track-item.is)))
    c.in-Err.ensures.fault

pub returns-clause-names : goal.returns-clause-names
returns-clause-names c =
    let tracks = c.deref-track-items.result.now in
    c.loop-track.invariant
    ∙ (ap (map name_of) (take_all c.loop-track.track-index tracks c.loop-track-test.false)
    ∙ (sym (map-map name_of_track filed_of tracks)
    ∙ ap (map name_of_track) (ap (map filed_of) c.deref-track-items.ensures.value ∙ c.in_ok-tracks.ensures)))
