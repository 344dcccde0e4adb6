use Rattle.std.proofs.Common.{◌≡◌, None, map, option_map, take}
use Rattle.std.specs.Prelude.{fold}
use Rattle.page_record.specs.Reading.{option_seen}
use Rattle.page_record.specs.System.{system_with}
use Rattle.page_record.proofs.system.system_of.Given as goal

abbrev pub invariant-loop-given : goal.invariant-loop-given
invariant-loop-given l = option_map (λ value. value.now) l.system ≡ fold system_with None (map option_seen (take l.given-index l.own.options.items))
