-- Fields that need no quotes, and what the reader of records makes of a text of them.
use Rattle.std.proofs.Common.{◌≡◌, ◌≢◌, ℕ, zero, suc, ◌≤◌, true, false, List, [], ◌∷◌, length, map, None, inl, inr, refl, ap, arith, rules, tests, nat_le}
use Rattle.std.proofs.lemmas.Bool.{and_parts, cases_Bool, ne_eqb}
use Rattle.std.proofs.lemmas.Str.Parse.{digit_from_value}
use Rattle.std.specs.Char.{is_ascii_digit}
use Rattle.std.specs.List.{list_all}
use Rattle.std.specs.Str.Parse.{AllDigits}
use Rattle.csv.specs.Machine.{next_record}
use Rattle.csv.specs.Reading.{default_config, records_from}
use Rattle.csv.specs.Writing.{default_writer, needs_byte, needs_quotes, read_back}
use Rattle.csv.specs.declared.parser.State.TheVariants as st
use Rattle.csv.proofs.RoundTrip.{read-write, rows_text}
use Rattle.range_fixes.specs.Field.{is_name_byte}

-- a byte that needs no quotes
plain_byte : (b : ℕ) → 32 ≤ b → b ≢ 44 → b ≢ 34 → needs_byte default_writer b ≡ false
plain_byte b control comma quote =
    rw (ne_eqb b 44 comma, ne_eqb b 34 quote, ne_eqb b 13 (λ e. omega (arith, control, e)), ne_eqb b 10 (λ e. omega (arith, control, e))) refl

control_tested : (b : ℕ) → is_name_byte b ≡ true → nat_le 32 b ≡ true
control_tested b h = elim (cases_Bool (nat_le 32 b)) [ inl t ↦ t | inr f ↦ cc (rw f at h) ]

at_least : (m n : ℕ) → nat_le m n ≡ true → m ≤ n
at_least m n h = search (rules, tests)

-- names need none
pub plain_name : (name : List ℕ) → list_all is_name_byte name ≡ true → needs_quotes default_writer name ≡ false
plain_name [] all = refl
plain_name (b ∷ name) all =
    let parts = and_parts (is_name_byte b) (list_all is_name_byte name) all in
    let good = parts.0 in
    let byte : needs_byte default_writer b ≡ false = plain_byte b (at_least 32 b (control_tested b good)) (λ e. cc (rw e at good)) (λ e. cc (rw e at good)) in
    rw byte (plain_name name parts.1)

-- nor do digits
pub plain_digits : (digits : List ℕ) → AllDigits 10 digits → needs_quotes default_writer digits ≡ false
plain_digits [] all = refl
plain_digits (d ∷ digits) all =
    let range = digit_from_value d all.0 in
    let byte : needs_byte default_writer d ≡ false = plain_byte d (omega (arith, range)) (λ e. omega (arith, range, e)) (λ e. omega (arith, range, e)) in
    rw byte (plain_digits digits all.1)

pub are_digits : (digits : List ℕ) → AllDigits 10 digits → list_all is_ascii_digit digits ≡ true
are_digits [] all = refl
are_digits (d ∷ digits) all =
    let range = digit_from_value d all.0 in
    let one : is_ascii_digit d ≡ true = search (rules, tests) in
    rw one (are_digits digits all.1)

-- no record at the end of a text
ended : next_record default_config st.StartRecord [] [] [] ≡ None
unfolding next_record
ended = refl

no_more : (n : ℕ) → records_from default_config n st.StartRecord [] ≡ []
unfolding records_from
no_more zero = refl
no_more (suc n) = rw ended refl

-- what was written is read, by whatever number of records that is as great
pub all_read : (rows : List (List (List ℕ))) (n : ℕ) → length rows ≤ n → records_from default_config n st.StartRecord (rows_text rows) ≡ map read_back rows
unfolding records_from rows_text
all_read [] n most = no_more n
all_read (row ∷ rows) zero most = absurd (omega (arith, most))
all_read (row ∷ rows) (suc n) most =
    rw (read-write row (rows_text rows)) (ap (λ (t : List (List (List ℕ))). read_back row ∷ t) (all_read rows n (omega (arith, most))))
