-- How many turns a hull's inserts evaluate, and what they bring.
use Rattle.std.specs.Prelude.{ℕ, ◌*◌}
use Rattle.range_plane.specs.Fix.{fix_limit}

-- more than eight for a point are never evaluated
abbrev pub most_turns : ℕ
most_turns = 8 * fix_limit

-- how often inserts evaluated `turn`, and the doubled area within the chains
pub record Count : Type 0 where
  pub turns : ℕ
  pub area : ℕ
