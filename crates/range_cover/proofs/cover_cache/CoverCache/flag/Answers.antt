use Rattle.std.proofs.Common.{arith, rules}
use Rattle.std.proofs.lemmas.Grind.{common_steps}
use Rattle.range_cover.proofs.cover_cache.CoverCache.flag.Goals as goal

pub returns-clause-copy : goal.returns-clause-copy
returns-clause-copy g c = search rules

pub returns-clause-flags : goal.returns-clause-flags
returns-clause-flags g c = grind (arith, common_steps)
