use Rattle.std.proofs.Common.{◌≡◌, ◌≤◌, length, map, take}
use Rattle.std.specs.Prelude.{Some}
use Rattle.range_options.specs.Limits.{level_count_limit}
use Rattle.range_words.specs.LevelList.{level_in, parts}
use Rattle.range_words.proofs.level.read_levels.Given as goal

abbrev pub invariant-loop-part : goal.invariant-loop-part
invariant-loop-part l = record {
  count : l.count ≡ length l.yielded;
  few : l.count ≤ level_count_limit;
  values : map level_in (take l.count (parts l.text)) ≡ map Some (take l.count l.levels);
}
