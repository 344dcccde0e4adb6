-- The names of the files of a split are those that files may have.
use Rattle.std.proofs.Common.{◌≡◌, ◌≢◌, ◌∙◌, ◌+◌, ◌==◌, ℕ, suc, Bool, true, false, cond, List, [], ◌∷◌, ◌++◌, Option, Some, None, Result, Ok, Err, All, map, length, refl, sym, ap, subst, arith}
use Rattle.std.specs.List.{list_any}
use Rattle.std.specs.Str.{bytes_eq}
use Rattle.std.proofs.lemmas.Bool.{ne_eqb}
use Rattle.std.proofs.lemmas.List.{length-map}
use Rattle.std.proofs.lemmas.List.Elements.{All-nil, All-push}
use Rattle.split_export.specs.Export.{IsOfTable, IsTableWith}
use Rattle.split_export.specs.declared.asked.Asked.{Asked}
use Rattle.split_export.specs.declared.export.Export.{Export}
use Rattle.split_names.specs.Clean.{clean}
use Rattle.split_names.specs.Names.{file_names, folded, is_among, named, numbered, same_after, told_apart}
use Rattle.split_reading.specs.Cells.{Record}
use Rattle.split_reading.specs.Ledger.{Written, animal_in, lasts_with, ledger_from, names_with, row_by, sensors_with, told_behind, with_name, written}
use Rattle.split_reading.specs.Told.{filled, first_filled, name_in}
use Rattle.split_reading.specs.Words.{texts}
use Rattle.split_reading.specs.declared.rules.Rules.{Rules}
use Rattle.split_reading.specs.declared.told.Told.{Told}
use Rattle.split_table.specs.Table.{Titled}
use Rattle.split_table.specs.declared.table.TableFault.{TableFault}
use Rattle.split_times.specs.declared.moment.Moment.{Moment}
use Rattle.split_chain.proofs.Ledgers.{behind_record}
use Rattle.split_chain.proofs.Results.{inner}

-- what is there is the same where two are
inside : {X : Type 0} {x y : X} → ◌≡◌ {A = Option X} (Some x) (Some y) → x ≡ y
inside e = cc e

-- ---- names of animals
-- a name is not empty
abbrev pub IsFull : List ℕ → Type 0
IsFull name = name ≢ []

-- what has a first one has not none
not_none : (first : ℕ) (others : List ℕ) → (length (first ∷ others) == 0) ≡ false
not_none first others = ne_eqb (length (first ∷ others)) 0 (λ none. omega (arith, none))

-- a record names an animal by a name that is not empty
filled_full : (name own : List ℕ) → filled name ≡ Some own → IsFull own
filled_full [] own e = cc e
filled_full (sign ∷ name) own e = let some = rw (not_none sign name) at e in λ empty. cc (inside some, empty)

-- also by the one name, if that is not
name_full : (rules : Rules) (columns : List ℕ) (fields : Record) (own : List ℕ) → IsFull rules.name.now → name_in rules columns fields ≡ Some own → IsFull own
name_full rules [] fields own full e = subst IsFull (inside e) full
name_full rules (column ∷ columns) fields own full e = filled_full (first_filled rules (column ∷ columns) fields) own (rw (not_none column columns) at e)

-- so with its name no name is empty
names_full : (names : List (List ℕ)) (name : Option (List ℕ)) → All IsFull names → ((own : List ℕ) → name ≡ Some own → IsFull own) → All IsFull (with_name names name)
names_full names None all full = all
names_full names (Some own) all full = by (list_any (bytes_eq own) names)
  where
    by : (b : Bool) → All IsFull (cond b names (names ++ own ∷ []))
    by true = all
    by false = All-push IsFull names own all (full own refl)

-- so no name of a ledger is empty
ledger_full : (rules : Rules) (count : ℕ) (names sensors : List (List ℕ)) (lasts : List (Option Moment)) (records : List Record) (whole : Written) → IsFull rules.name.now → All IsFull names
    → ledger_from rules count names sensors lasts records ≡ Ok whole → All IsFull whole.names
unfolding ledger_from
ledger_full rules count names sensors lasts [] whole full all e = subst (λ (l : Written). All IsFull l.names) (inner e) all
ledger_full rules count names sensors lasts (fields ∷ records) whole full all e =
    let more = λ (told : Told).
    ledger_from rules (count + 1) (names_with rules names fields) (sensors_with rules sensors fields) (lasts_with lasts (animal_in rules names fields) told) records in
    behind_record (λ l. All IsFull l.names) (count + 1) (told_behind rules (count + 1) names lasts fields) (row_by rules names sensors fields) more whole
    (λ told others. ledger_full rules (count + 1) (names_with rules names fields) (sensors_with rules sensors fields) (lasts_with lasts (animal_in rules names fields) told) records others full
    (names_full names (name_in rules rules.animal.now fields) all (λ own. name_full rules rules.animal.now fields own full)))
    e

-- no animal of a table has an empty name, where the one name is not empty
pub animals_full : (asked : Asked) (commas : Bool) (export : Export) (table : Result Titled TableFault) → IsFull asked.name.now
    → IsTableWith (λ t. IsOfTable asked commas t export) table → All IsFull (texts export.ledger.names)
animals_full asked commas export (Err fault) full is = absurd is
animals_full asked commas export (Ok table) full is =
    ledger_full is.rules 0 [] [] [] table.records (written export.ledger) (subst (λ (rules : Rules). IsFull rules.name.now) (sym is.are_rules.are) full) (All-nil IsFull) is.is_ledger

-- ---- names of files
-- names with numbers are as many as without
named_long : (before taken names : List (List ℕ)) → length (named before taken names) ≡ length names
unfolding named
named_long before taken [] = refl
named_long before taken (name ∷ names) =
    by (is_among before name) _ _ (named_long (before ++ folded name ∷ []) (taken ++ folded (numbered taken name) ∷ []) names) (named_long (before ++ folded name ∷ []) taken names)
  where
    by : (b : Bool) (one other : List (List ℕ)) → length one ≡ length names → length other ≡ length names
        → length (cond b (numbered taken name ∷ one) (name ∷ other)) ≡ length (name ∷ names)
    by true one other long same = ap suc long
    by false one other long same = ap suc same

-- also once they are told apart
told_long : (names own : List (List ℕ)) (same : Option (ℕ × ℕ)) → told_apart names same ≡ Ok own → length own ≡ length names
told_long names own (Some two) e = absurd (cc e)
told_long names own None e = sym (ap length (inner e)) ∙ named_long [] (map folded names) names

-- the names of files are as many as those of animals
pub as_many_names : (animals names : List (List ℕ)) → file_names animals ≡ Ok names → length animals ≡ length names
as_many_names animals names e = sym (told_long (map clean animals) names (same_after [] (map clean animals)) e ∙ length-map animals clean)
