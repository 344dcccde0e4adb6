use Rattle.std.proofs.Common.{◌≡◌, ◌*◌, arith, inl, inr}
use Rattle.std.proofs.lemmas.Int.{by_lt_z, ints}
use Rattle.range_plane.specs.Order.{rank}
use Rattle.range_pieces.proofs.search.count_before.Goals as goal

pub returns : goal.returns
returns c =
    by_lt_z (rank c.args.q) (rank c.args.p)
    (λ lt. let one : c.from.result ≡ 1 = grind (arith, ints) in inl ((let e : c.args.count * c.from.result ≡ c.args.count = rw one (omega arith) in e), lt))
    (λ le. let none : c.from.result ≡ 0 = grind (arith, ints) in inr ((let e : c.args.count * c.from.result ≡ 0 = rw none (omega arith) in e), le))
