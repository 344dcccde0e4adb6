-- The limits of a run, those of the code.
use Rattle.std.specs.Prelude.{ℕ}
use Rattle.range_options.specs.declared.limits.TheConstants.{BLOCK_LIMIT, DEPTH_LIMIT, FILE_LIMIT, LEVEL_COUNT_LIMIT, LEVEL_LIMIT, WORKER_LIMIT}

-- the most fixes of a block
abbrev pub block_limit : ℕ
block_limit = BLOCK_LIMIT

-- the most messages that a line may be opened to hold
abbrev pub depth_limit : ℕ
depth_limit = DEPTH_LIMIT

-- the most files of a run, and so of a line
abbrev pub file_limit : ℕ
file_limit = FILE_LIMIT

-- the most levels of a list
abbrev pub level_count_limit : ℕ
level_count_limit = LEVEL_COUNT_LIMIT

-- the greatest level, in per cent
abbrev pub level_limit : ℕ
level_limit = LEVEL_LIMIT

-- the most workers
abbrev pub worker_limit : ℕ
worker_limit = WORKER_LIMIT
