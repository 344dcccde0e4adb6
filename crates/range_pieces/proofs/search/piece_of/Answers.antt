use Rattle.std.proofs.Common.{ℕ, subst, sym}
use Rattle.range_pieces.specs.RisingPoints.{Rises, first_of}
use Rattle.range_pieces.proofs.PieceIndices.{firsts_rise}
use Rattle.range_pieces.proofs.search.piece_of.Goals as goal

pub last_before-requires-clause-rising : goal.last_before-requires-clause-rising
last_before-requires-clause-rising g c =
    let bs = c.args.shelf.now.pieces in
    subst (λ (n : ℕ). Rises (first_of bs) n) (sym c.count.ensures) (firsts_rise bs c.requires.cut c.requires.rising)
