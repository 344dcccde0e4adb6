-- The indices of some corners, spread evenly over all.
use Rattle.std.specs.Prelude.{ℕ, ◌*◌, ◌/◌}
use Rattle.range_lanes.specs.declared.inner.TheConstants.{INNER_CORNERS}

-- the index of inner corner i among n corners
abbrev pub index_of : ℕ → ℕ → ℕ
index_of i n = i * n / INNER_CORNERS
