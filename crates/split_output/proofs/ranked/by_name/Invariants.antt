use Rattle.std.proofs.Common.{◌≡◌, ◌<◌, All, map, take}
use Rattle.std.specs.List.{enumerate_from}
use Rattle.split_output.proofs.ranked.by_name.Given as goal

abbrev pub invariant-loop-animal : goal.invariant-loop-animal
invariant-loop-animal l = record {
  within : All (λ one. one.1 < l.fn.animals) l.ranked.items;
  order : map (λ one. (one.1, one.0.now)) l.ranked.items ≡ enumerate_from 0 (take l.animal (map (λ file. file.name.items) l.split.files.items));
}
