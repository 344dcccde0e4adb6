use Rattle.std.proofs.Common.{FitsSigned, w64}
use lib.Lanes.{chunk}
use Rattle.range_lanes.proofs.Signed.{read_back, each_fits}
use Rattle.std.proofs.lemmas.Simd.{Each1-chunk, length-chunk}
use Rattle.range_lanes.proofs.lanes.Lanes.load.Goals as goal

pub invariant_of-result : goal.invariant_of-result
invariant_of-result c =
    let fits = Each1-chunk (FitsSigned w64) c.args.at 8 c.args.numbers.now (each_fits c.args.numbers.now c.requires.limits) in
    rw (read_back (chunk c.args.at 8 c.args.numbers.now) fits) (length-chunk c.args.at 8 c.args.numbers.now c.requires.room, fits)

pub returns : goal.returns
returns c = read_back _ (Each1-chunk (FitsSigned w64) c.args.at 8 c.args.numbers.now (each_fits c.args.numbers.now c.requires.limits))
