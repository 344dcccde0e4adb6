use Rattle.crossbeam_channel.specs.Ends.{sends_on, ruled_capacity}
use Rattle.range_line.proofs.feeder.Feeder.open.Given as goal

abbrev pub ghosts-split_pass : goal.ghosts-split_pass
ghosts-split_pass g a = record { file = a.file; depth = ruled_capacity (sends_on a.sender.now) }
