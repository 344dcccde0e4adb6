-- How files are followed.
use Rattle.std.specs.Prelude.{ℕ, ◌≤◌}
use Rattle.range_options.specs.Limits.{block_limit, depth_limit, worker_limit}

-- how many fixes a block has, how many messages a line holds and how many workers there are: each is at least 1 and
-- within its limit
abbrev pub IsPlan : ℕ → ℕ → ℕ → Type 0
IsPlan block depth workers = ((1 ≤ block) × (block ≤ block_limit)) × ((1 ≤ depth) × (depth ≤ depth_limit)) × ((1 ≤ workers) × (workers ≤ worker_limit))
