-- Which record a refusal names, and of which kind it is.
use Rattle.std.specs.Prelude.{◌≡◌, ◌⊎◌, ℕ, ◌^◌, ◌&&◌, nat_lt, if◌then◌else◌, Option, Some, None}
use Rattle.split_refusal.specs.declared.kind.Kind.{Kind}
use Rattle.split_refusal.specs.declared.kind.Kind.TheVariants.{Grid, Memory}
use Rattle.split_refusal.specs.declared.refusal.Refusal.{Refusal}
use Rattle.split_table.specs.declared.table.TableFault.{TableFault}
use Rattle.split_table.specs.declared.table.TableFault.TheVariants as faults

-- a refusal names this record, or none; or there is not enough memory
abbrev pub Names : Option ℕ → Refusal → Type 0
Names number refusal = (refusal.kind ≡ Memory) ⊎ (refusal.«record» ≡ number)

-- a refusal is of this kind; or there is not enough memory
abbrev pub IsOfKind : Kind → Refusal → Type 0
IsOfKind kind refusal = (refusal.kind ≡ Memory) ⊎ (refusal.kind ≡ kind)

-- a refusal is not that of a fix off the grid: one of this kind names no record
abbrev pub IsOfNoFix : Refusal → Type 0
IsOfNoFix refusal = refusal.kind ≡ Grid → refusal.«record» ≡ None

-- the number of a record below the titles, which are record 0
abbrev pub below_titles : ℕ → Option ℕ
below_titles number = if nat_lt 0 number && nat_lt number (2 ^ 32) then Some number else None

-- the record that the fault of a table has
abbrev pub record_of_table : TableFault → Option ℕ
record_of_table faults.OutOfMemory = None
record_of_table (faults.StrayQuote number) = below_titles number
record_of_table (faults.OpenQuote number) = below_titles number
record_of_table faults.NoTitles = None
