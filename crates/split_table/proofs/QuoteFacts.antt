-- Quotes in a text, byte for byte.
use Rattle.std.proofs.Common.{◌≡◌, ℕ, Bool, true, false, ◌==◌, List, [], ◌∷◌, None, Some, arith, refl, ◌∙◌}
use Rattle.std.proofs.lemmas.Bool.Decides.{nat_tests}
use Rattle.csv.specs.Machine.{step}
use Rattle.csv.specs.declared.parser.State.{State}
use Rattle.csv.specs.declared.parser.State.TheVariants as st
use Rattle.split_table.specs.Quotes.{config_by, ended_with, is_stray, quote_fault_from, ends_record, settled, state_of, Moves}
use Rattle.split_table.specs.declared.quotes.Place.{Place}
use Rattle.split_table.specs.declared.quotes.Place.TheVariants.{RecordStart, FieldStart, Plain, Quoted, QuoteEnd}
use Rattle.split_table.specs.declared.table.TableFault.TheVariants.{OpenQuote, StrayQuote}

pub is_equal : (a b : ℕ) → (a == b) ≡ true → a ≡ b
is_equal a b h = grind (arith, nat_tests)

-- an LF behind a CR changes nothing
after_cr : (separator count : ℕ) (text : List ℕ) → quote_fault_from separator st.AfterCr count text ≡ quote_fault_from separator st.StartRecord count text
unfolding quote_fault_from
after_cr separator count [] = refl
after_cr separator count (b ∷ text) = by (b == 10) refl
  where
    by : (l : Bool) → (b == 10) ≡ l → quote_fault_from separator st.AfterCr count (b ∷ text) ≡ quote_fault_from separator st.StartRecord count (b ∷ text)
    by true el = by_lf (b == 13) refl el
      where
        by_lf : (r : Bool) → (b == 13) ≡ r → (b == 10) ≡ true → quote_fault_from separator st.AfterCr count (b ∷ text) ≡ quote_fault_from separator st.StartRecord count (b ∷ text)
        by_lf true er el = absurd (omega (arith, is_equal b 13 er, is_equal b 10 el))
        by_lf false er el = rw (el, er) refl
    by false el = rw el refl

pub settles : (separator count : ℕ) (s : State) (text : List ℕ) → quote_fault_from separator s count text ≡ quote_fault_from separator (settled s) count text
settles separator count st.StartRecord text = refl
settles separator count st.StartField text = refl
settles separator count st.InField text = refl
settles separator count st.InQuoted text = refl
settles separator count st.AfterQuote text = refl
settles separator count st.InEscape text = refl
settles separator count st.InComment text = refl
settles separator count st.AfterCr text = after_cr separator count text

-- a byte that moves the machine from place to place
pub moved : (separator count : ℕ) (place next : Place) (b : ℕ) (text : List ℕ) → Moves separator place b next
    → quote_fault_from separator (state_of place) count (b ∷ text) ≡ quote_fault_from separator (state_of next) (ended_with (ends_record place next) count) text
unfolding quote_fault_from
moved separator count place next b text m =
    rw (m.stands, m.ends) (settles separator _ (step (config_by separator) (state_of place) b).0 text ∙ rw m.state refl)

pub strays : (separator count : ℕ) (place : Place) (b : ℕ) (text : List ℕ) → is_stray separator (state_of place) b ≡ true
    → quote_fault_from separator (state_of place) count (b ∷ text) ≡ Some (StrayQuote count)
unfolding quote_fault_from
strays separator count place b text h = rw h refl

pub opens : (separator count : ℕ) → quote_fault_from separator (state_of Quoted) count [] ≡ Some (OpenQuote count)
unfolding quote_fault_from
opens separator count = refl

-- a place where no quote is open
pub not_quoted : (separator count : ℕ) (place : Place) → ((place ≡ Quoted) → ⊥) → quote_fault_from separator (state_of place) count [] ≡ None
unfolding quote_fault_from
not_quoted separator count RecordStart h = refl
not_quoted separator count FieldStart h = refl
not_quoted separator count Plain h = refl
not_quoted separator count Quoted h = absurd (h refl)
not_quoted separator count QuoteEnd h = refl
