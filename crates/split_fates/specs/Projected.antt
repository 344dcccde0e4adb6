-- What projection leaves as it is.
use Rattle.std.specs.Prelude.{None}
use Rattle.split_reading.specs.declared.ledger.Row.{Row}
use Rattle.split_reading.specs.declared.told.Told.{Told}
use Rattle.split_reading.specs.declared.told.Told.TheVariants as told
use Rattle.split_reading.specs.declared.told.ToldFix.{ToldFix}

-- a fix without its metres and its zone
abbrev pub fix_beside_place : ToldFix → ToldFix
fix_beside_place fix = record fix { metres = None; zone = None }

-- what a record says beside them
abbrev pub told_beside_place : Told → Told
told_beside_place (told.LeftOut why) = told.LeftOut why
told_beside_place (told.Fix fix) = told.Fix (fix_beside_place fix)

-- a row beside them
abbrev pub beside_place : Row → Row
beside_place row = record row { told = told_beside_place row.told }
