use Rattle.range_line.proofs.Streams.{streams_are_lawful}
use Rattle.range_line.proofs.laws.streams_are_lawful.Goals as goal

pub returns : goal.returns
returns c = streams_are_lawful
