-- A ledger, record for record.
use Rattle.std.proofs.Common.{◌≡◌, ◌≤◌, ◌<◌, ◌+◌, ℕ, Bool, true, false, cond, List, [], ◌∷◌, ◌++◌, Option, Some, None, Result, Ok, Err, length, IfSome, inl, inr, refl, sym, ap, subst, ◌∙◌, arith, append_assoc, append-nil, length-append}
use Rattle.std.proofs.lemmas.List.Elements.{All-push}
use Rattle.std.specs.List.{list_any}
use Rattle.std.specs.Str.{bytes_eq}
use Rattle.split_reading.specs.declared.fault.CellFault.{CellFault}
use Rattle.split_reading.specs.declared.fault.ReadingFault.{ReadingFault}
use Rattle.split_reading.specs.declared.fault.ReadingFault.TheVariants as faults
use Rattle.split_reading.specs.declared.ledger.Row.{Row}
use Rattle.split_reading.specs.declared.rules.Rules.{Rules}
use Rattle.split_reading.specs.Cells.{Record}
use Rattle.split_reading.specs.Ledger.{AreTimely, GoesOn, IsFaultAt, IsRowFault, IsWithin, Written, Writes, animal_in, finished, lasts_with, ledger_from, ledger_of, names_with, row_by, sensors_with, told_behind, with_name, with_row, with_rows}
use Rattle.split_reading.specs.Told.{IsTimely, name_in, sensor_in}
use Rattle.split_table.specs.Table.{TakesRecord}
use Rattle.split_reading.specs.Words.{with_word}

-- a word more is at most one more
pub one_more : (words : List (List ℕ)) (word : List ℕ) → length (with_word words word) ≤ length words + 1
one_more words word = by (list_any (bytes_eq word) words)
  where
    by : (b : Bool) → length (cond b words (words ++ (word ∷ []))) ≤ length words + 1
    by true = omega arith
    by false = omega (arith, length-append words (word ∷ []))

pub one_name_more : (names : List (List ℕ)) (name : Option (List ℕ)) → length (with_name names name) ≤ length names + 1
one_name_more names None = omega arith
one_name_more names (Some name) = one_more names name

rows_assoc : (rows : List Row) (row : Row) (r : Result Written ReadingFault) → with_rows rows (with_row row r) ≡ with_rows (rows ++ (row ∷ [])) r
rows_assoc rows row (Err fault) = refl
rows_assoc rows row (Ok ledger) = ap (λ (l : List Row). Ok (record ledger { rows = l })) (simp append_assoc)

-- a ledger comes to the same once the next record is written
pub finished_more : (rules : Rules) (count : ℕ) (old new : Written) (fields : Record) (more : List Record) → Writes rules (count + 1) old fields new
    → finished rules count old (fields ∷ more) ≡ finished rules (count + 1) new more
unfolding ledger_from
finished_more rules count old new fields more w =
    rw (w.tells, w.names, w.sensors, w.lasts, w.rows) (rows_assoc old.rows (row_by rules old.names old.sensors fields w.told)
    (ledger_from rules (count + 1) (names_with rules old.names fields) (sensors_with rules old.sensors fields) (lasts_with old.lasts (animal_in rules old.names fields) w.told) more))

-- and to a fault where it has one
pub finished_fault : (rules : Rules) (count : ℕ) (old : Written) (fields : Record) (more : List Record) (own : CellFault) → told_behind rules (count + 1) old.names old.lasts fields ≡ Err own
    → finished rules count old (fields ∷ more) ≡ Err (faults.Record (count + 1) own)
unfolding ledger_from
finished_fault rules count old fields more own h = rw h refl

-- with no record left it is what it was
pub finished_none : (rules : Rules) (count : ℕ) (old : Written) → finished rules count old [] ≡ Ok old
unfolding ledger_from
finished_none rules count old = rw (append-nil old.rows) refl

-- ---- reading the next record
pub stops : (rules : Rules) (count : ℕ) (old : Written) (left after : Option (List Record)) (fields : Record) → TakesRecord left false fields after → GoesOn rules count old left false old after
stops rules count old None after fields t = refl
stops rules count old (Some records) after fields t = rw t (finished_none rules count old)

within_more : (rules : Rules) (count : ℕ) (old new : Written) (fields : Record) → Writes rules (count + 1) old fields new → IsWithin count old → IsWithin (count + 1) new
within_more rules count old new fields w within =
    let name = one_name_more old.names (name_in rules rules.animal.now fields) in
    let sensor = one_more old.sensors (sensor_in rules fields) in
    rw (w.names, w.sensors) (omega (arith, name, within.0), omega (arith, sensor, within.1))

-- rows stay timely with that of one record more
pub timely_more : (rules : Rules) (number : ℕ) (old new : Written) (fields : Record) → Writes rules number old fields new → AreTimely old.rows → AreTimely new.rows
timely_more rules number old new fields w timely =
    subst AreTimely (sym w.rows) (All-push (λ row. IsTimely row.told) old.rows (row_by rules old.names old.sensors fields w.told) timely w.timely)

pub goes_on : (rules : Rules) (count : ℕ) (old new : Written) (left after : Option (List Record)) (fields : Record) → TakesRecord left true fields after
    → (left ≡ None → true ≡ false) → Writes rules (count + 1) old fields new → IsWithin count old → count < 4_294_967_295 → GoesOn rules count old left true new after
goes_on rules count old new None after fields t none w within few = none refl
goes_on rules count old new (Some records) after fields (more, is, then) none w within few =
    (more, then, rw is (omega arith), few, within_more rules count old new fields w within, rw is (finished_more rules count old new fields more w))

pub row_fault : (rules : Rules) (count : ℕ) (old : Written) (left after : Option (List Record)) (fields : Record) (fault : ReadingFault) → TakesRecord left true fields after
    → IsRowFault rules (count + 1) old fields fault → IfSome left (IsFaultAt rules count old fault)
row_fault rules count old None after fields fault t f = tt
row_fault rules count old (Some records) after fields fault (more, is, then) f = elim f [
  | inl memory ↦ inl memory
  | inr own ↦ inr (inr (rw is (finished_fault rules count old fields more own.0 own.1) ∙ ap (λ (x : ReadingFault). Err x) (sym own.2)))
]

pub no_rows : (r : Result Written ReadingFault) → with_rows [] r ≡ r
no_rows (Err fault) = refl
no_rows (Ok ledger) = refl

-- an empty ledger comes to that of all records
pub begins : (rules : Rules) (empty : Written) (records : List Record) → empty.names ≡ [] → empty.sensors ≡ [] → empty.lasts ≡ [] → empty.rows ≡ []
    → ledger_of rules records ≡ finished rules 0 empty records
begins rules empty records names sensors lasts rows = rw (names, sensors, lasts, rows) (sym (no_rows (ledger_of rules records)))

-- the ledger so far, where the records are known
abbrev pub SoFar : Rules → Option (List Record) → ℕ → Written → Option (List Record) → Type 0
SoFar rules all count ledger left = (records : List Record) → all ≡ Some records → (more : List Record) × (left ≡ Some more)
    × (ledger_of rules records ≡ finished rules count ledger more) × (length records ≡ count + length more)
