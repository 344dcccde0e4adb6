-- The text of a track is read back.
use Rattle.std.proofs.Common.{◌≡◌, ℕ, pos, ℤ, ◌+◌, ◌^◌, ◌<◌, ◌≤◌, ◌==◌, Bool, true, false, cond, List, [], ◌∷◌, ◌++◌, length, map, Option, Some, None, Ok, refl, sym, ap, ap₂, subst, ◌∙◌, arith, append_assoc, if◌then◌else◌, length-append, nat_lt, codes, decimal, rules, tests}
use Rattle.std.proofs.lemmas.Bool.{and_parts, ne_eqb}
use Rattle.std.proofs.lemmas.Bool.Decides.{nat_tests}
use Rattle.std.proofs.lemmas.Fmt.{decimal_is_IsNumeral}
use Rattle.std.proofs.lemmas.Slice.Eq.{bytes_eq-Decides}
use Rattle.std.specs.Fmt.{signed_decimal}
use Rattle.std.specs.List.{flat_map, list_all}
use Rattle.std.specs.Str.{bytes_eq}
use Rattle.std.specs.Str.Parse.{digits_value}
use Rattle.csv.specs.Reading.{default_config, records, strip_bom}
use Rattle.csv.specs.Writing.{default_writer, end_text, fields_text, is_blank, needs_quotes, read_back, row_body, row_text}
use Rattle.csv.proofs.RoundTrip.{rows_text}
use Rattle.range_plane.specs.Fix.{fix_limit, second_limit}
use Rattle.range_plane.specs.Plane.{position}
use Rattle.range_plane.specs.Scale.{limit}
use Rattle.range_plane.specs.declared.scale.Scale.{Scale}
use Rattle.range_plane.specs.declared.fix.Fix.{Fix}
use Rattle.range_plane.specs.declared.scale.Scale.TheVariants.{Metre, Decimetre}
use Rattle.range_numbers.specs.Number.{is_number}
use Rattle.range_fixes.specs.Field.{Record, first_field, header_of, is_name, is_name_byte}
use Rattle.range_fixes.specs.Check.{animal_in, checked_in, fix_in, is_earlier, used_in}
use Rattle.range_fixes.specs.Previous.{Previous}
use Rattle.range_fixes.specs.Reading.{passed_after, reading, reading_of, used_fixes}
use Rattle.split_files.specs.declared.text.MarkedFix.{MarkedFix}
use Rattle.split_files.specs.Laws.{IsOnGrid, MayFollow, MayFollowAll, used_of}
use Rattle.split_files.specs.TrackText.{line_of, place_text, text_of, title_line}
use Rattle.split_files.proofs.PlainFields.{all_read, are_digits, plain_digits, plain_name}

-- the fields of the titles, and those of a fix
abbrev titles : Bool → Record
titles false = codes "animal" ∷ codes "second" ∷ codes "easting" ∷ codes "northing" ∷ []
titles true = codes "animal" ∷ codes "second" ∷ codes "easting" ∷ codes "northing" ∷ codes "use" ∷ []

abbrev mark : Bool → List ℕ
mark true = codes "1"
mark false = codes "0"

abbrev fields_of : Bool → List ℕ → MarkedFix → Record
fields_of false name one = name ∷ decimal one.fix.second ∷ signed_decimal one.fix.at.e ∷ signed_decimal one.fix.at.n ∷ []
fields_of true name one = name ∷ decimal one.fix.second ∷ signed_decimal one.fix.at.e ∷ signed_decimal one.fix.at.n ∷ mark one.is_used ∷ []

title_row : (has_marks : Bool) → title_line has_marks ≡ row_text default_writer (titles has_marks)
unfolding fields_text is_blank
title_row false = refl
title_row true = refl

-- the line of a fix is the text of its fields, of which none needs quotes
line_row : (has_marks : Bool) (name : List ℕ) (one : MarkedFix) → needs_quotes default_writer name ≡ false → needs_quotes default_writer (decimal one.fix.second) ≡ false
    → needs_quotes default_writer (signed_decimal one.fix.at.e) ≡ false → needs_quotes default_writer (signed_decimal one.fix.at.n) ≡ false
    → line_of has_marks name one ≡ row_text default_writer (fields_of has_marks name one)
unfolding fields_text is_blank place_text
line_row false name one n s e m = rw (n, s, e, m) (simp append_assoc)
line_row true name one n s e m = by one.is_used
  where
    by : (used : Bool) → line_of true name (record one { is_used = used }) ≡ row_text default_writer (fields_of true name (record one { is_used = used }))
    by true = rw (n, s, e, m) (simp append_assoc)
    by false = rw (n, s, e, m) (simp append_assoc)

-- the digits of a number need no quotes, are a number and have its value
pub number : (n : ℕ) → n < 2 ^ 64 → (needs_quotes default_writer (decimal n) ≡ false) × (is_number (decimal n) ≡ true) × (digits_value 10 (decimal n) ≡ n)
number n small =
    let numeral = decimal_is_IsNumeral n small in
    let some : nat_lt 0 (length (decimal n)) ≡ true = (let h = numeral.0.0 in search (rules, tests)) in
    (plain_digits (decimal n) numeral.0.1, rw (some, are_digits (decimal n) numeral.0.1) refl, numeral.1)

-- the limits of grids are numbers of 64 bits
limit_small : (unit : Scale) → limit unit < 2 ^ 64
limit_small Metre = omega arith
limit_small Decimetre = omega arith

-- the coordinates of a grid, as numbers
on_grid : (unit : Scale) (z : ℤ) → IsOnGrid unit z → (needs_quotes default_writer (signed_decimal z) ≡ false) × (is_number (signed_decimal z) ≡ true)
    × (pos (digits_value 10 (signed_decimal z)) ≡ z) × (digits_value 10 (signed_decimal z) ≤ limit unit)
on_grid unit z on =
    let small = limit_small unit in
    let all = number on.0 (omega (arith, on.2, small)) in
    subst (λ z. (needs_quotes default_writer (signed_decimal z) ≡ false) × (is_number (signed_decimal z) ≡ true)
    × (pos (digits_value 10 (signed_decimal z)) ≡ z) × (digits_value 10 (signed_decimal z) ≤ limit unit)) (sym on.1)
    (all.0, all.1, ap pos all.2, subst (λ n. n ≤ limit unit) (sym all.2) on.2)

-- the text of a track is that of its records
text_rows : (unit : Scale) (has_marks : Bool) (name : List ℕ) (second : ℕ) (fixes : List MarkedFix) → list_all is_name_byte name ≡ true → MayFollowAll unit has_marks second fixes
    → flat_map (line_of has_marks name) fixes ≡ rows_text (map (fields_of has_marks name) fixes)
unfolding rows_text
text_rows unit has_marks name second [] named all = refl
text_rows unit has_marks name second (one ∷ fixes) named all =
    let may : MayFollow unit has_marks second one = all.0 in
    let s = number one.fix.second (omega (arith, may.1)) in
    let row = line_row has_marks name one (plain_name name named) s.0 (on_grid unit one.fix.at.e may.2).0 (on_grid unit one.fix.at.n may.3).0 in
    ap (λ l. l ++ flat_map (line_of has_marks name) fixes) row
    ∙ ap (λ l. row_text default_writer (fields_of has_marks name one) ++ l) (text_rows unit has_marks name one.fix.second fixes named all.1)

-- ---- one record
bytes_same : (name : List ℕ) → bytes_eq name name ≡ true
bytes_same name = (bytes_eq-Decides name name).1 refl

not_more : (most n : ℕ) → n ≤ most → nat_lt most n ≡ false
not_more most n h = grind (arith, nat_tests)

-- what the checks find of the numbers of a fix, where that of the animal found nothing
numbers_checked : (unit : Scale) (rec : ℕ) (previous : Option Previous) (name : List ℕ) (one : MarkedFix) (has_marks : Bool) (second : ℕ)
    → animal_in rec previous name ≡ Ok tt → is_earlier previous one.fix.second ≡ false → MayFollow unit has_marks second one
    → fix_in unit rec previous name (decimal one.fix.second) (signed_decimal one.fix.at.e) (signed_decimal one.fix.at.n) ≡ Ok one.fix
numbers_checked unit rec previous name one has_marks second named later may =
    let s = number one.fix.second (omega (arith, may.1)) in
    let e = on_grid unit one.fix.at.e may.2 in
    let n = on_grid unit one.fix.at.n may.3 in
    rw (named, s.1, s.2, not_more second_limit one.fix.second may.1, e.1, not_more (limit unit) _ e.3, n.1, not_more (limit unit) _ n.3, later)
    (ap (λ at. Ok (record { second = one.fix.second; at = at })) (ap₂ (λ easting northing. position easting northing) e.2 n.2))

-- a mark says whether the fix is used
mark_read : (rec : ℕ) (used : Bool) → used_in rec (Some (mark used)) ≡ Ok used
mark_read rec true = refl
mark_read rec false = refl

-- what a record of a fix comes to
fix_checked : (unit : Scale) (has_marks : Bool) (rec : ℕ) (previous : Option Previous) (name : List ℕ) (one : MarkedFix) (second : ℕ)
    → animal_in rec previous name ≡ Ok tt → is_earlier previous one.fix.second ≡ false → MayFollow unit has_marks second one
    → checked_in unit has_marks rec previous (fields_of has_marks name one) ≡ Ok (record { fix = one.fix; used = one.is_used })
unfolding checked_in
fix_checked unit false rec previous name one second named later may =
    rw (numbers_checked unit rec previous name one false second named later may) (ap (λ used. Ok (record { fix = one.fix; used = used })) (sym (may.4 refl)))
fix_checked unit true rec previous name one second named later may =
    rw (numbers_checked unit rec previous name one true second named later may, mark_read rec one.is_used) refl

-- ---- all records
-- a record of this name behind one of it, or behind none
named_first : (rec : ℕ) (name : List ℕ) → is_name name ≡ true → animal_in rec None name ≡ Ok tt
named_first rec name named = rw named refl

named_next : (rec second : ℕ) (name : List ℕ) → is_name name ≡ true → animal_in rec (Some (record { animal = name; second = second })) name ≡ Ok tt
named_next rec second name named = rw (named, bytes_same name) refl

not_earlier : (second next : ℕ) → second ≤ next → nat_lt next second ≡ false
not_earlier second next h = not_more next second h

below : (count : ℕ) → count < fix_limit → (count == fix_limit) ≡ false
below count h = ne_eqb count fix_limit (λ e. omega (arith, h, e))

-- what the fixes behind a record of this second come to
abbrev AreRead : Scale → Bool → List ℕ → ℕ → Option Previous → List MarkedFix → Type 0
AreRead unit has_marks name count previous fixes =
    (used_fixes (passed_after unit has_marks count previous (map (fields_of has_marks name) fixes)).checked ≡ used_of fixes)
    × ((passed_after unit has_marks count previous (map (fields_of has_marks name) fixes)).fault ≡ None)

first_field_of : (has_marks : Bool) (name : List ℕ) (one : MarkedFix) → first_field (fields_of has_marks name one) ≡ name
first_field_of false name one = refl
first_field_of true name one = refl

-- a fix before the used ones of others
used_more : (one : MarkedFix) (others : List MarkedFix) → used_of (one ∷ others) ≡ cond one.is_used (one.fix ∷ used_of others) (used_of others)
used_more one others = by one.is_used
  where
    by : (used : Bool) → used_of (record one { is_used = used } ∷ others) ≡ cond used (one.fix ∷ used_of others) (used_of others)
    by true = refl
    by false = refl

kept_or_not : {X : Type 0} (fix_of : X → Fix) (used : Bool) (x : X) (rest : List X) (fix : Fix) (fixes : List Fix) → fix_of x ≡ fix → map fix_of rest ≡ fixes
    → map fix_of (cond used (x ∷ rest) rest) ≡ cond used (fix ∷ fixes) fixes
kept_or_not fix_of true x rest fix fixes one others = ap₂ (λ first more. first ∷ more) one others
kept_or_not fix_of false x rest fix fixes one others = others

all_behind : (unit : Scale) (has_marks : Bool) (name : List ℕ) (count second : ℕ) (fixes : List MarkedFix) → is_name name ≡ true
    → MayFollowAll unit has_marks second fixes → count + length fixes ≤ fix_limit
    → AreRead unit has_marks name count (Some (record { animal = name; second = second })) fixes
unfolding passed_after
all_behind unit has_marks name count second [] named all few = (refl, refl)
all_behind unit has_marks name count second (one ∷ fixes) named all few =
    let previous : Option Previous = Some (record { animal = name; second = second }) in
    let may : MayFollow unit has_marks second one = all.0 in
    let checked = fix_checked unit has_marks (count + 1) previous name one second (named_next (count + 1) second name named) (not_earlier second one.fix.second may.0) may in
    let more = all_behind unit has_marks name (count + 1) one.fix.second fixes named all.1 (omega (arith, few)) in
    rw (below count (omega (arith, few)), checked) (kept_or_not _ one.is_used _ _ one.fix (used_of fixes) refl more.0 ∙ sym (used_more one fixes), more.1)

animal_behind : (unit : Scale) (has_marks : Bool) (name : List ℕ) (count second : ℕ) (fixes : List MarkedFix) → is_name name ≡ true
    → MayFollowAll unit has_marks second fixes → count + length fixes ≤ fix_limit
    → (passed_after unit has_marks count (Some (record { animal = name; second = second })) (map (fields_of has_marks name) fixes)).animal ≡ Some name
unfolding passed_after
animal_behind unit has_marks name count second [] named all few = refl
animal_behind unit has_marks name count second (one ∷ fixes) named all few =
    let may : MayFollow unit has_marks second one = all.0 in
    let checked = fix_checked unit has_marks (count + 1) (Some (record { animal = name; second = second })) name one second (named_next (count + 1) second name named)
    (not_earlier second one.fix.second may.0) may in
    rw (below count (omega (arith, few)), checked) (animal_behind unit has_marks name (count + 1) one.fix.second fixes named all.1 (omega (arith, few)))

-- what all the fixes of a track come to
all_first : (unit : Scale) (has_marks : Bool) (name : List ℕ) (one : MarkedFix) (fixes : List MarkedFix) → is_name name ≡ true
    → MayFollowAll unit has_marks 0 (one ∷ fixes) → length (one ∷ fixes) ≤ fix_limit
    → ((passed_after unit has_marks 0 None (map (fields_of has_marks name) (one ∷ fixes))).animal ≡ Some name) × AreRead unit has_marks name 0 None (one ∷ fixes)
unfolding passed_after
all_first unit has_marks name one fixes named all few =
    let may : MayFollow unit has_marks 0 one = all.0 in
    let checked = fix_checked unit has_marks 1 None name one 0 (named_first 1 name named) refl may in
    let more = all_behind unit has_marks name 1 one.fix.second fixes named all.1 (omega (arith, few)) in
    let animal = animal_behind unit has_marks name 1 one.fix.second fixes named all.1 (omega (arith, few)) in
    rw (checked, first_field_of has_marks name one) (animal, (kept_or_not _ one.is_used _ _ one.fix (used_of fixes) refl more.0 ∙ sym (used_more one fixes), more.1))

-- all bytes of a name may stand in one
bytes_of_name : (name : List ℕ) → is_name name ≡ true → list_all is_name_byte name ≡ true
bytes_of_name name named = (and_parts _ (list_all is_name_byte name) named).1

-- the titles are those of a header
header : (has_marks : Bool) → header_of (titles has_marks) ≡ Some has_marks
header false = refl
header true = refl

-- the records of a track are read as its name and its used fixes, with no fault
records_read : (unit : Scale) (has_marks : Bool) (name : List ℕ) (fixes : List MarkedFix) → is_name name ≡ true → MayFollowAll unit has_marks 0 fixes
    → length fixes ≤ fix_limit → 0 < length (used_of fixes)
    → reading_of unit (titles has_marks ∷ map (fields_of has_marks name) fixes) ≡ record { animal = Some name; fixes = used_of fixes; fault = None }
records_read unit has_marks name [] named all few some = absurd (omega (arith, some))
records_read unit has_marks name (one ∷ fixes) named all few some =
    let read = all_first unit has_marks name one fixes named all few in
    let used : (0 + length (used_of (one ∷ fixes)) == 0) ≡ false = ne_eqb (0 + length (used_of (one ∷ fixes))) 0 (λ e. omega (arith, some, e)) in
    rw (header has_marks, read.0, read.1.1, read.1.0, used) refl

-- each record is read back as it was written
read_back_all : (has_marks : Bool) (name : List ℕ) (fixes : List MarkedFix)
    → map read_back (titles has_marks ∷ map (fields_of has_marks name) fixes) ≡ titles has_marks ∷ map (fields_of has_marks name) fixes
read_back_all has_marks name fixes = ap₂ (λ first others. first ∷ others) (title has_marks) (others fixes)
  where
    title : (marks : Bool) → read_back (titles marks) ≡ titles marks
    title false = refl
    title true = refl

    fields : (marks : Bool) (one : MarkedFix) → read_back (fields_of marks name one) ≡ fields_of marks name one
    fields false one = refl
    fields true one = refl

    others : (ones : List MarkedFix) → map read_back (map (fields_of has_marks name) ones) ≡ map (fields_of has_marks name) ones
    others [] = refl
    others (one ∷ ones) = ap₂ (λ first rest. first ∷ rest) (fields has_marks one) (others ones)

-- a text of records is no shorter than they are many
rows_long : (rows : List Record) → length rows ≤ length (rows_text rows)
unfolding rows_text
rows_long [] = omega arith
rows_long (row ∷ rows) =
    let more = rows_long rows in
    let joined = length-append (row_text default_writer row) (rows_text rows) in
    let body = length-append (row_body default_writer row) ((if is_blank default_writer row then default_writer.quote ∷ default_writer.quote ∷ [] else []) ++ end_text default_writer.terminator) in
    let tail = length-append (if is_blank default_writer row then default_writer.quote ∷ default_writer.quote ∷ [] else []) (end_text default_writer.terminator) in
    omega (arith, more, joined, body, tail)

-- the text of a track has no byte order mark
no_mark : (has_marks : Bool) (rest : List ℕ) → strip_bom (title_line has_marks ++ rest) ≡ title_line has_marks ++ rest
unfolding strip_bom
no_mark false rest = refl
no_mark true rest = refl

pub read_back_law : (unit : Scale) (has_marks : Bool) (name : List ℕ) (fixes : List MarkedFix) → is_name name ≡ true → MayFollowAll unit has_marks 0 fixes
    → length fixes ≤ fix_limit → 0 < length (used_of fixes)
    → reading unit (text_of has_marks name fixes) ≡ record { animal = Some name; fixes = used_of fixes; fault = None }
unfolding reading text_of rows_text
read_back_law unit has_marks name fixes named all few some =
    let rows = titles has_marks ∷ map (fields_of has_marks name) fixes in
    let text : text_of has_marks name fixes ≡ rows_text rows = whole in
    ap (λ l. reading_of unit (records default_config l)) (no_mark has_marks (flat_map (line_of has_marks name) fixes) ∙ text)
    ∙ (ap (reading_of unit) (all_read rows (length (rows_text rows) + 1) (let long = rows_long rows in omega (arith, long)) ∙ read_back_all has_marks name fixes)
    ∙ records_read unit has_marks name fixes named all few some)
  where
    whole : title_line has_marks ++ flat_map (line_of has_marks name) fixes ≡ rows_text (titles has_marks ∷ map (fields_of has_marks name) fixes)
    whole = ap₂ (λ first others. first ++ others) (title_row has_marks)
        (text_rows unit has_marks name 0 fixes (bytes_of_name name named) all)
