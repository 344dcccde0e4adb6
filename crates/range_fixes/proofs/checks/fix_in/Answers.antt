use Rattle.std.proofs.Common.{rules}
use Rattle.range_fixes.proofs.checks.fix_in.Goals as goal

pub returns-in_err-easting : goal.returns-in_err-easting
returns-in_err-easting c = search rules

pub returns-in_err-northing : goal.returns-in_err-northing
returns-in_err-northing c = search rules

pub returns-then-is_earlier : goal.returns-then-is_earlier
returns-then-is_earlier c = search rules

pub returns : goal.returns
returns c = search rules

pub returns-in_err-second : goal.returns-in_err-second
returns-in_err-second c = search rules
