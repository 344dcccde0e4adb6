use Rattle.split_numbers.proofs.Moves.{moves_at_most, moves_more_than}
use Rattle.split_numbers.proofs.laws.rounding_moves_by_at_most_half_a_unit.Goals as goal

pub returns : goal.returns
returns c = λ units n k. (moves_at_most units n k, moves_more_than units n k)
