-- The rows of a ledger: one for each record, of one of the animals that have a name in it, or of none.
use Rattle.std.proofs.Common.{◌≡◌, ◌+◌, ◌<◌, ◌≤◌, ℕ, suc, Bool, true, false, cond, not, List, [], ◌∷◌, ◌++◌, Option, Some, None, Result, Ok, Err, All, option_map, length, refl, ap, subst, inl, inr, arith, length-append}
use Rattle.std.specs.List.{list_any, position_or_len}
use Rattle.std.specs.Str.{bytes_eq}
use Rattle.std.proofs.lemmas.Bool.{cases_Bool, lt-ltb, ltb-true}
use Rattle.std.proofs.lemmas.List.Elements.{All-cons, All-nil}
use Rattle.std.proofs.lemmas.List.Sums.{prefix_len-le-length}
use Rattle.split_counts.specs.Counts.{is_one_of}
use Rattle.split_reading.specs.Cells.{Record}
use Rattle.split_reading.specs.Ledger.{Written, animal_in, if_told, lasts_with, ledger_from, names_with, row_by, sensors_with, told_behind, with_name, with_row}
use Rattle.split_reading.specs.Told.{name_in}
use Rattle.split_reading.specs.Words.{place_of, with_word}
use Rattle.split_reading.specs.declared.fault.CellFault.{CellFault}
use Rattle.split_reading.specs.declared.fault.ReadingFault.{ReadingFault}
use Rattle.split_reading.specs.declared.ledger.Row.{Row}
use Rattle.split_reading.specs.declared.rules.Rules.{Rules}
use Rattle.split_reading.specs.declared.told.Told.{Told}
use Rattle.split_times.specs.declared.moment.Moment.{Moment}
use Rattle.split_chain.proofs.Results.{inner}

-- what holds of a ledger with a row before those of each ledger that others come to
behind_row : (P : Written → Type 0) (row : Row) (rest : Result Written ReadingFault) (whole : Written)
    → ((others : Written) → rest ≡ Ok others → P (record others { rows = row ∷ others.rows })) → with_row row rest ≡ Ok whole → P whole
behind_row P row (Err fault) whole holds e = absurd (cc e)
behind_row P row (Ok others) whole holds e = subst P (inner e) (holds others refl)

-- what holds of a ledger behind a record, whatever is told of the record
pub behind_record : (P : Written → Type 0) (number : ℕ) (what : Result Told CellFault) (row : Told → Row) (more : Told → Result Written ReadingFault) (whole : Written)
    → ((told : Told) (others : Written) → more told ≡ Ok others → P (record others { rows = row told ∷ others.rows }))
    → if_told number what (λ told. with_row (row told) (more told)) ≡ Ok whole → P whole
behind_record P number (Err fault) row more whole holds e = absurd (cc e)
behind_record P number (Ok told) row more whole holds e = behind_row P (row told) (more told) whole (holds told) e

-- ---- animals by their names
-- what is somewhere has a place
place_there : {X : Type 0} (p : X → Bool) (xs : List X) → list_any p xs ≡ true → position_or_len p xs < length xs
place_there p [] there = absurd (cc there)
place_there p (x ∷ xs) there = elim (cases_Bool (p x)) [
  | inl here ↦ rw here (omega arith)
  | inr behind ↦ let rest = place_there p xs (rw behind at there) in rw behind (omega (arith, rest))
]

-- with a word there are no fewer, and it has its place among them
words_longer : (words : List (List ℕ)) (word : List ℕ) → length words ≤ length (with_word words word)
words_longer words word = by (list_any (bytes_eq word) words)
  where
    by : (b : Bool) → length words ≤ length (cond b words (words ++ (word ∷ [])))
    by true = omega arith
    by false = omega (arith, length-append words (word ∷ []))

place_within : (words : List (List ℕ)) (word : List ℕ) → place_of words word < length (with_word words word)
place_within words word = elim (cases_Bool (list_any (bytes_eq word) words)) [
  | inl there ↦ rw there (place_there (bytes_eq word) words there)
  | inr new ↦ rw new (omega (arith, prefix_len-le-length (λ w. not (bytes_eq word w)) words, length-append words (word ∷ [])))
]

-- so has the name of a record's animal, if it names one
names_longer : (names : List (List ℕ)) (name : Option (List ℕ)) → length names ≤ length (with_name names name)
names_longer names None = omega arith
names_longer names (Some name) = words_longer names name

one_of_names : (names : List (List ℕ)) (name : Option (List ℕ)) → is_one_of (length (with_name names name)) (option_map (place_of names) name) ≡ true
one_of_names names None = refl
one_of_names names (Some name) = lt-ltb _ _ (place_within names name)

-- one of some animals is one of more
one_of_more : (few many : ℕ) (animal : Option ℕ) → few ≤ many → is_one_of few animal ≡ true → is_one_of many animal ≡ true
one_of_more few many None more one = refl
one_of_more few many (Some animal) more one = lt-ltb animal many (omega (arith, ltb-true animal few one, more))

-- ---- rows
-- a row is of one of so many animals, or of none
abbrev pub IsRowOf : ℕ → Row → Type 0
IsRowOf animals row = is_one_of animals row.animal ≡ true

-- a ledger has at least these names, a row for each of these records, and each row is of one of its animals
pub record IsOfNames (names : List (List ℕ)) (records : List Record) (ledger : Written) : Type 0 where
  pub longer : length names ≤ length ledger.names
  pub as_many : length ledger.rows ≡ length records
  pub own : All (IsRowOf (length ledger.names)) ledger.rows

-- so with a row before those of others
row_more : (rules : Rules) (names sensors : List (List ℕ)) (fields : Record) (records : List Record) (told : Told) (others : Written) → IsOfNames (names_with rules names fields) records others
    → IsOfNames names (fields ∷ records) (record others { rows = row_by rules names sensors fields told ∷ others.rows })
row_more rules names sensors fields records told others of =
    let name = name_in rules rules.animal.now fields in
    record {
      longer = omega (arith, names_longer names name, of.longer);
      as_many = ap suc of.as_many;
      own = All-cons (IsRowOf (length others.names)) (row_by rules names sensors fields told) others.rows
          (one_of_more _ _ (animal_in rules names fields) of.longer (one_of_names names name)) of.own;
    }

-- and each ledger is so
pub ledger_of_names : (rules : Rules) (count : ℕ) (names sensors : List (List ℕ)) (lasts : List (Option Moment)) (records : List Record) (whole : Written)
    → ledger_from rules count names sensors lasts records ≡ Ok whole → IsOfNames names records whole
unfolding ledger_from
ledger_of_names rules count names sensors lasts [] whole e =
    subst (IsOfNames names []) (inner e) (record { longer = omega arith; as_many = refl; own = All-nil (IsRowOf (length names)) })
ledger_of_names rules count names sensors lasts (fields ∷ records) whole e =
    let more = λ (told : Told).
    ledger_from rules (count + 1) (names_with rules names fields) (sensors_with rules sensors fields) (lasts_with lasts (animal_in rules names fields) told) records in
    behind_record (IsOfNames names (fields ∷ records)) (count + 1) (told_behind rules (count + 1) names lasts fields) (row_by rules names sensors fields) more whole
    (λ told others rest. row_more rules names sensors fields records told others
    (ledger_of_names rules (count + 1) (names_with rules names fields) (sensors_with rules sensors fields) (lasts_with lasts (animal_in rules names fields) told) records others rest))
    e
