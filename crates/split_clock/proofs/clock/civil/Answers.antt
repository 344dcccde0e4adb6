use Rattle.std.proofs.Common.{arith}
use Rattle.jiff_core.proofs.SignedLemmas.{signed_casts}
use Rattle.split_clock.proofs.DateLemmas.{is_time_of}
use Rattle.split_clock.proofs.clock.civil.Goals as goal

pub returns : goal.returns
returns c = is_time_of c.args.local c.from_nanosecond_in_range.result c.requires (omega (arith, signed_casts))
