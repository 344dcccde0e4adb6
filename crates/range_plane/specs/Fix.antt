-- The limits of fixes.
use Rattle.std.specs.Prelude.{ℕ}
use Rattle.range_plane.specs.declared.fix.TheConstants.{FIX_LIMIT, SECOND_LIMIT}

-- the greatest second of a fix that is read from a file
abbrev pub second_limit : ℕ
second_limit = SECOND_LIMIT

-- the most fixes of one file
abbrev pub fix_limit : ℕ
fix_limit = FIX_LIMIT
