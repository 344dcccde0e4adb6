-- The records of a text without quotes and CR, line for line.
use Rattle.std.proofs.Common.{◌≡◌, ◌≢◌, ◌≤◌, ℕ, zero, suc, Bool, true, false, cond, ◌==◌, ◌&&◌, not, List, [], ◌∷◌, ◌++◌, Some, None, length, map, refl, sym, ap, ◌∙◌, arith, append_assoc, append-nil}
use Rattle.std.proofs.lemmas.Bool.{and_parts}
use Rattle.std.specs.List.{filter, onto_first}
use Rattle.csv.specs.Machine.{field_after, fields_after, in_field, is_end, next_record, step}
use Rattle.csv.specs.Reading.{records_next}
use Rattle.csv.specs.declared.parser.State.{State}
use Rattle.csv.specs.declared.parser.State.TheVariants as st
use Rattle.split_table.specs.Laws.{PlainRecordsAreLines, filled_lines, is_filled, is_plain_text, parts_between}
use Rattle.split_table.specs.Quotes.{config_by}
use Rattle.split_table.specs.Table.{records_of}
use Rattle.split_table.proofs.QuoteFacts.{is_equal}
use Rattle.split_table.proofs.RecordFacts.{records_step}

-- the first line of a text, and what stands below it
abbrev line : List ℕ → List ℕ
line [] = []
line (b ∷ text) = cond (b == 10) [] (b ∷ line text)

abbrev below : List ℕ → List ℕ
below [] = []
below (b ∷ text) = cond (b == 10) text (below text)

below_shorter : (text : List ℕ) → length (below text) ≤ length text
below_shorter [] = omega arith
below_shorter (b ∷ text) = by (b == 10) (below_shorter text)
  where
    by : (l : Bool) → length (below text) ≤ length text → length (cond l text (below text)) ≤ length (b ∷ text)
    by true h = omega arith
    by false h = omega (arith, h)

plain_below : (text : List ℕ) → is_plain_text text ≡ true → is_plain_text (below text) ≡ true
plain_below [] p = refl
plain_below (b ∷ text) p =
    let parts = and_parts (not (b == 34) && not (b == 13)) (is_plain_text text) p in
    by (b == 10) parts.1 (plain_below text parts.1)
  where
    by : (l : Bool) → is_plain_text text ≡ true → is_plain_text (below text) ≡ true → is_plain_text (cond l text (below text)) ≡ true
    by true h k = h
    by false h k = k

-- the lines of a text: the first, and those below it as far as they are not blank
lines_by_line : (text : List ℕ) → (more : List (List ℕ)) × (parts_between 10 text ≡ line text ∷ more) × (filter is_filled more ≡ filled_lines (below text))
lines_by_line [] = ([], refl, refl)
lines_by_line (b ∷ text) = by (b == 10) (lines_by_line text)
  where
    by : (l : Bool) → (more : List (List ℕ)) × (parts_between 10 text ≡ line text ∷ more) × (filter is_filled more ≡ filled_lines (below text))
        → (more : List (List ℕ)) × (cond l ([] ∷ parts_between 10 text) (onto_first b (parts_between 10 text)) ≡ cond l [] (b ∷ line text) ∷ more)
        × (filter is_filled more ≡ filled_lines (cond l text (below text)))
    by true (more, is, then) = (parts_between 10 text, refl, refl)
    by false (more, is, then) = (more, rw is refl, then)

filled_behind : (text : List ℕ) (b : ℕ) → (b == 10) ≡ false → filled_lines (b ∷ text) ≡ (b ∷ line text) ∷ filled_lines (below text)
filled_behind text b h = by (lines_by_line text)
  where
    by : (more : List (List ℕ)) × (parts_between 10 text ≡ line text ∷ more) × (filter is_filled more ≡ filled_lines (below text)) → filled_lines (b ∷ text) ≡ (b ∷ line text) ∷ filled_lines (below text)
    by (more, is, then) = rw (h, is) (ap (λ (l : List (List ℕ)). (b ∷ line text) ∷ l) then)

-- a text before the first of some parts
abbrev joined : List ℕ → List (List ℕ) → List (List ℕ)
joined field [] = field ∷ []
joined field (part ∷ parts) = (field ++ part) ∷ parts

joined_nothing : (sign : ℕ) (text : List ℕ) → joined [] (parts_between sign text) ≡ parts_between sign text
joined_nothing sign [] = refl
joined_nothing sign (b ∷ text) = by (b == sign) (parts_between sign text)
  where
    by : (l : Bool) (parts : List (List ℕ)) → joined [] (cond l ([] ∷ parts) (onto_first b parts)) ≡ cond l ([] ∷ parts) (onto_first b parts)
    by true parts = refl
    by false [] = refl
    by false (part ∷ parts) = refl

joined_more : (field : List ℕ) (b : ℕ) (parts : List (List ℕ)) → joined field (onto_first b parts) ≡ joined (field ++ (b ∷ [])) parts
joined_more field b [] = refl
joined_more field b (part ∷ parts) = ap (λ (l : List ℕ). l ∷ parts) (simp append_assoc)

-- whether the machine is in a field without quotes
abbrev is_in_field : State → Bool
is_in_field st.StartRecord = false
is_in_field st.StartField = true
is_in_field st.InField = true
is_in_field st.InQuoted = false
is_in_field st.AfterQuote = false
is_in_field st.InEscape = false
is_in_field st.InComment = false
is_in_field st.AfterCr = false

plain_step : (c b : ℕ) (s : State) → is_in_field s ≡ true → (b == 34) ≡ false → step (config_by c) s b ≡ in_field (config_by c) b
plain_step c b st.StartField u h = rw h refl
plain_step c b st.InField u h = refl
plain_step c b st.StartRecord u h = cc u
plain_step c b st.InQuoted u h = cc u
plain_step c b st.AfterQuote u h = cc u
plain_step c b st.InEscape u h = cc u
plain_step c b st.InComment u h = cc u
plain_step c b st.AfterCr u h = cc u

not_true : (x : Bool) → not x ≡ true → x ≡ false
not_true true e = cc e
not_true false e = refl

-- a separator ends a field, and another byte joins it
field_ends : (c b : ℕ) (text : List ℕ) (fields : List (List ℕ)) (field : List ℕ) → (b == c) ≡ true
    → fields ++ joined field (parts_between c (b ∷ text)) ≡ (fields ++ (field ∷ [])) ++ joined [] (parts_between c text)
field_ends c b text fields field ed = rw (ed, joined_nothing c text, append-nil field) (simp append_assoc)

field_goes_on : (c b : ℕ) (text field : List ℕ) → (b == c) ≡ false → joined field (parts_between c (b ∷ text)) ≡ joined (field ++ (b ∷ [])) (parts_between c text)
field_goes_on c b text field ed = rw ed (joined_more field b (parts_between c text))

-- a field to the end of its line
line_read : (c : ℕ) (text : List ℕ) → c ≢ 10 → is_plain_text text ≡ true → (s : State) (fields : List (List ℕ)) (field : List ℕ) → is_in_field s ≡ true
    → next_record (config_by c) s fields field text ≡ Some (fields ++ joined field (parts_between c (line text)), st.StartRecord, below text)
unfolding next_record
line_read c [] apart p st.StartField fields field u = ap (λ (f : List ℕ). Some (fields ++ (f ∷ []), st.StartRecord, [])) (sym (append-nil field))
line_read c [] apart p st.InField fields field u = ap (λ (f : List ℕ). Some (fields ++ (f ∷ []), st.StartRecord, [])) (sym (append-nil field))
line_read c [] apart p st.StartRecord fields field u = cc u
line_read c [] apart p st.InQuoted fields field u = cc u
line_read c [] apart p st.AfterQuote fields field u = cc u
line_read c [] apart p st.InEscape fields field u = cc u
line_read c [] apart p st.InComment fields field u = cc u
line_read c [] apart p st.AfterCr fields field u = cc u
line_read c (b ∷ text) apart p s fields field u =
    let parts = and_parts (not (b == 34) && not (b == 13)) (is_plain_text text) p in
    let byte = and_parts (not (b == 34)) (not (b == 13)) parts.0 in
    let step_is = plain_step c b s u (not_true (b == 34) byte.0) in
    rw step_is (by (b == c) (b == 10) refl refl (not_true (b == 13) byte.1) (line_read c text apart parts.1))
  where
    by : (d l : Bool) → (b == c) ≡ d → (b == 10) ≡ l → (b == 13) ≡ false
        → ((s : State) (fields : List (List ℕ)) (field : List ℕ) → is_in_field s ≡ true
        → next_record (config_by c) s fields field text ≡ Some (fields ++ joined field (parts_between c (line text)), st.StartRecord, below text))
        → cond (is_end (in_field (config_by c) b).1) (Some (fields_after (in_field (config_by c) b).1 fields field, (in_field (config_by c) b).0, text))
        (next_record (config_by c) (in_field (config_by c) b).0 (fields_after (in_field (config_by c) b).1 fields field) (field_after (in_field (config_by c) b).1 b field) text)
        ≡ Some (fields ++ joined field (parts_between c (line (b ∷ text))), st.StartRecord, below (b ∷ text))
    by true true ed el er more = absurd (apart (sym (is_equal b c ed) ∙ is_equal b 10 el))
    by true false ed el er more = rw (ed, el) (more st.StartField (fields ++ (field ∷ [])) [] refl
        ∙ ap (λ (f : List (List ℕ)). Some (f, st.StartRecord, below text)) (sym (field_ends c b (line text) fields field ed)))
    by false true ed el er more = rw (ed, el, er) (ap (λ (f : List ℕ). Some (fields ++ (f ∷ []), st.StartRecord, text)) (sym (append-nil field)))
    by false false ed el er more = rw (ed, el, er) (more st.InField fields (field ++ (b ∷ [])) refl
        ∙ ap (λ (f : List (List ℕ)). Some (fields ++ f, st.StartRecord, below text)) (sym (field_goes_on c b (line text) field ed)))

-- a record that does not begin with the end of a line begins as a field does
first_step : (c b : ℕ) → (b == 10) ≡ false → (b == 13) ≡ false → step (config_by c) st.StartRecord b ≡ step (config_by c) st.StartField b
first_step c b l r = rw (l, r) refl

-- a blank line is passed over
blank : (c b : ℕ) (text : List ℕ) → (b == 10) ≡ true → (b == 13) ≡ false → next_record (config_by c) st.StartRecord [] [] (b ∷ text) ≡ next_record (config_by c) st.StartRecord [] [] text
unfolding next_record
blank c b text l r = rw (l, r) refl

-- at the end there is no record
no_record : (c : ℕ) → next_record (config_by c) st.StartRecord [] [] [] ≡ None
unfolding next_record
no_record c = refl

by_first : (c b : ℕ) (text : List ℕ) → step (config_by c) st.StartRecord b ≡ step (config_by c) st.StartField b
    → next_record (config_by c) st.StartRecord [] [] (b ∷ text) ≡ next_record (config_by c) st.StartField [] [] (b ∷ text)
unfolding next_record
by_first c b text e = rw e refl

-- a line is a record
line_is_record : (c b : ℕ) (text : List ℕ) → c ≢ 10 → is_plain_text (b ∷ text) ≡ true → (b == 10) ≡ false → (b == 13) ≡ false
    → next_record (config_by c) st.StartRecord [] [] (b ∷ text) ≡ Some (parts_between c (b ∷ line text), st.StartRecord, below text)
line_is_record c b text apart p l r =
    begins ∙ (line_read c (b ∷ text) apart p st.StartField [] [] refl
    ∙ rw l (ap (λ (f : List (List ℕ)). Some (f, st.StartRecord, below text)) (joined_nothing c (b ∷ line text))))
  where
    begins : next_record (config_by c) st.StartRecord [] [] (b ∷ text) ≡ next_record (config_by c) st.StartField [] [] (b ∷ text)
    begins = by_first c b text (first_step c b l r)

plain_from : (c n : ℕ) (text : List ℕ) → c ≢ 10 → length text ≤ n → is_plain_text text ≡ true
    → records_of (config_by c) st.StartRecord text ≡ map (parts_between c) (filled_lines text)
plain_from c n [] apart most p = records_step (config_by c) st.StartRecord [] ∙ none
  where
    none : records_next (records_of (config_by c)) (next_record (config_by c) st.StartRecord [] [] []) ≡ []
    none = ap (records_next (records_of (config_by c))) (no_record c)
plain_from c zero (b ∷ text) apart most p = absurd (omega (arith, most))
plain_from c (suc n) (b ∷ text) apart most p =
    let parts = and_parts (not (b == 34) && not (b == 13)) (is_plain_text text) p in
    let byte = and_parts (not (b == 34)) (not (b == 13)) parts.0 in
    by (b == 10) refl (not_true (b == 13) byte.1) parts.1 (plain_from c n)
  where
    by : (l : Bool) → (b == 10) ≡ l → (b == 13) ≡ false → is_plain_text text ≡ true
        → ((text : List ℕ) → c ≢ 10 → length text ≤ n → is_plain_text text ≡ true → records_of (config_by c) st.StartRecord text ≡ map (parts_between c) (filled_lines text))
        → records_of (config_by c) st.StartRecord (b ∷ text) ≡ map (parts_between c) (filled_lines (b ∷ text))
    by true el er plain more =
        records_step (config_by c) st.StartRecord (b ∷ text)
        ∙ (ap (records_next (records_of (config_by c))) (blank c b text el er)
        ∙ (sym (records_step (config_by c) st.StartRecord text)
        ∙ (more text apart (omega (arith, most)) plain ∙ rw el refl)))
    by false el er plain more =
        records_step (config_by c) st.StartRecord (b ∷ text)
        ∙ (ap (records_next (records_of (config_by c))) (line_is_record c b text apart p el er)
        ∙ (ap (λ (l : List (List (List ℕ))). parts_between c (b ∷ line text) ∷ l) (more (below text) apart (omega (arith, most, below_shorter text)) (plain_below text plain))
        ∙ ap (map (parts_between c)) (sym (filled_behind text b el))))

pub plain_records : PlainRecordsAreLines
plain_records c text lf cr quote p = plain_from c (length text) text lf (omega arith) p
