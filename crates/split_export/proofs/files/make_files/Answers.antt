use Rattle.std.proofs.Common.{◌∙◌, ◌++◌, ◌<◌, ℕ, Vec, ap, ap₂, drop, map, subst, sym}
use Rattle.split_export.specs.Files.{entries_of_all, file_of, filed, files_of}
use Rattle.split_export.proofs.FileFacts.{left_from, next_file, no_files, nothing_left}
use Rattle.split_export.proofs.files.make_files.Goals as goal

pub loop-place-preserved : goal.loop-place-preserved
loop-place-preserved c =
    let choice = c.args.choice.now in
    let done = map filed c.loop-place.files.items in
    let place = c.loop-place.place in
    c.loop-place.invariant
    ∙ (ap₂ (λ names tracks. done ++ files_of choice names tracks)
    (left_from (λ (name : Vec _ _). name.items) c.args.names.now place c.index-names-place.result c.index-names-place.is c.loop-place-test.true)
    (left_from (λ (track : Vec _ _). track.items) c.args.tracks.now place c.index-tracks-place.result c.index-tracks-place.is
    (subst (λ (count : ℕ). place < count) c.requires c.loop-place-test.true))
    ∙ next_file choice c.loop-place.files.items c.push_file.new.files.items c.in-Ok.file c.index-names-place.result.items c.index-tracks-place.result.items _ _
    c.in_ok-push_file.ensures
    (c.in-Ok.ensures ∙ ap₂ (file_of choice) c.deref.ensures.value c.deref-in-loop-place.ensures.value))

pub returns : goal.returns
returns c =
    let choice = c.args.choice.now in
    let rest = drop c.loop-place.place (entries_of_all c.args.tracks.now) in
    sym (c.loop-place.invariant
    ∙ (ap (λ names. map filed c.loop-place.files.items ++ files_of choice names rest) (nothing_left (λ (name : Vec _ _). name.items) c.args.names.now c.loop-place.place c.loop-place-test.false)
    ∙ no_files choice c.loop-place.files.items rest))
