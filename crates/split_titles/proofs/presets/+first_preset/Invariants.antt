use Rattle.std.proofs.Common.{length}
use Rattle.split_titles.proofs.presets.+first_preset.Given as goal

abbrev pub decreases-first_preset : goal.decreases-first_preset
decreases-first_preset l = length l.presets.now
