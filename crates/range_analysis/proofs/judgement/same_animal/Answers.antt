use Rattle.std.proofs.Common.{arith, sym, ◌∙◌}
use Rattle.range_analysis.proofs.FileTracks.{name_is, repeat_within}
use Rattle.range_analysis.proofs.judgement.same_animal.Goals as goal

pub swap_remove-animal-requires : goal.swap_remove-animal-requires
swap_remove-animal-requires c =
    let within = repeat_within c.args.tracks.items _ _ c.requires.repeat in
    omega (arith, within.1, c.args.tracks.ok.0)

pub overflow_cast-result : goal.overflow_cast-result
overflow_cast-result c =
    let within = repeat_within c.args.tracks.items _ _ c.requires.repeat in
    omega (arith, within.0, c.requires.files)

pub overflow_cast-result-2 : goal.overflow_cast-result-2
overflow_cast-result-2 c =
    let within = repeat_within c.args.tracks.items _ _ c.requires.repeat in
    omega (arith, within.1, c.requires.files)

pub returns : goal.returns
returns c =
    let tracks = c.args.tracks.items in
    let repeat = c.requires.repeat in
    let within = repeat_within tracks _ _ repeat in
    let named = name_is tracks c.args.second c.swap_remove-animal.result within.1 c.swap_remove-animal.ensures.value in
    (c.requires.faultless, repeat, named ∙ sym repeat.2)
