use Rattle.std.proofs.Common.{◌≡◌, take}
use Rattle.csv.specs.Records.{fields_of}
use Rattle.split_export.specs.Export.{bytes_of}
use Rattle.split_export.proofs.export.own_fields.Given as goal

abbrev pub invariant-loop-place : goal.invariant-loop-place
invariant-loop-place l = bytes_of l.own.items ≡ take l.place (fields_of l.fields)
