-- No line has a control character, and so the lines of a text are those that were written.
use Rattle.std.proofs.Common.{◌≡◌, ℕ, zero, suc, ◌-◌, ◌<◌, ◌/◌, ◌%◌, ◌==◌, Bool, true, false, not, List, [], ◌∷◌, ◌++◌, map, slice_index, inl, inr, refl, ap, ◌∙◌, append_assoc, arith, codes}
use Rattle.std.proofs.lemmas.Bool.{and_from, and_parts, cases_Bool, ne_eqb}
use Rattle.std.proofs.lemmas.Bool.Decides.{nat_tests}
use Rattle.std.proofs.lemmas.List.Folds.{list_all-append}
use Rattle.std.proofs.lemmas.List.Sums.{AllPass-from_list_all}
use Rattle.std.specs.Char.{is_ascii_control}
use Rattle.std.specs.List.{flat_map, list_all}
use Rattle.hex.specs.Hex.{encode_with, lower_digits}
use Rattle.split_record.specs.Laws.{lines_in, with_byte}
use Rattle.split_record.specs.Lines.{field_text, line_text, text_of_all}
use Rattle.split_record.specs.OneLine.{bytes_behind, escaped, one_line_behind, sign_text, starts_control, starts_separator}

-- whether a byte is no control character
abbrev is_plain : ℕ → Bool
is_plain byte = not (is_ascii_control byte)

are_plain-append : (first second : List ℕ) → list_all is_plain first ≡ true → list_all is_plain second ≡ true → list_all is_plain (first ++ second) ≡ true
are_plain-append first second one other = list_all-append is_plain first second ∙ and_from _ _ one other

-- all digits pass a test, and what introduces them; so does an escape
pub escape_passes : (p : ℕ → Bool) (mark : List ℕ) (code : ℕ) → list_all p lower_digits ≡ true → list_all p mark ≡ true → code < 256
    → list_all p (escaped mark code) ≡ true
unfolding encode_with
escape_passes p mark code digits passes small =
    let high : code / 16 < 16 = grind (arith, small) in
    let low : code % 16 < 16 = grind arith in
    let one : (value : ℕ) → value < 16 → p (slice_index lower_digits value) ≡ true =
    λ value within. AllPass-from_list_all p lower_digits digits value 0 within in
    list_all-append p mark _ ∙ and_from _ _ passes (and_from _ _ (one (code / 16) high) (and_from _ _ (one (code % 16) low) refl))

-- the codes that are escaped
pub control_small : (text : List ℕ) → starts_control text ≡ true → slice_index text 1 < 256
control_small text h = grind (arith, nat_tests)

pub separator_small : (text : List ℕ) → starts_separator text ≡ true → slice_index text 2 - 0x80 < 256
separator_small text h = grind (arith, nat_tests)

pub ascii_small : (byte : ℕ) → is_ascii_control byte ≡ true → byte < 256
ascii_small byte h = grind (arith, nat_tests)

-- what is written for the start of a text
sign_plain : (text : List ℕ) → list_all is_plain (sign_text text) ≡ true
sign_plain text =
    elim (cases_Bool (starts_control text)) [
      | inl long ↦ rw long (escape_passes is_plain (codes "\\x") (slice_index text 1) refl refl (control_small text long))
      | inr short ↦
          elim (cases_Bool (starts_separator text)) [
            | inl parts ↦ rw (short, parts) (escape_passes is_plain (codes "\\u20") (slice_index text 2 - 0x80) refl refl (separator_small text parts))
            | inr other ↦
                elim (cases_Bool (is_ascii_control (slice_index text 0))) [
                  | inl control ↦ rw (short, other, control) (escape_passes is_plain (codes "\\x") (slice_index text 0) refl refl (ascii_small (slice_index text 0) control))
                  | inr plain ↦ rw (short, other, plain) (and_from (is_plain (slice_index text 0)) true (ap not plain) refl)
                ]
          ]
    ]

-- a text in one line
one_line_plain : (behind : ℕ) (text : List ℕ) → list_all is_plain (one_line_behind behind text) ≡ true
unfolding one_line_behind
one_line_plain zero [] = refl
one_line_plain (suc behind) [] = refl
one_line_plain zero (byte ∷ others) =
    are_plain-append (sign_text (byte ∷ others)) (one_line_behind (bytes_behind (byte ∷ others)) others) (sign_plain (byte ∷ others))
    (one_line_plain (bytes_behind (byte ∷ others)) others)
one_line_plain (suc behind) (byte ∷ others) = one_line_plain behind others

fields_plain : (fields : List (List ℕ)) → list_all is_plain (flat_map field_text fields) ≡ true
fields_plain [] = refl
fields_plain (field ∷ fields) = are_plain-append (field_text field) (flat_map field_text fields) (one_line_plain 0 field) (fields_plain fields)

-- a line
pub line_plain : (line : List (List ℕ)) → list_all is_plain (line_text line) ≡ true
line_plain [] = refl
line_plain (kind ∷ fields) = are_plain-append (one_line_behind 0 kind) (flat_map field_text fields) (one_line_plain 0 kind) (fields_plain fields)

-- a plain byte is no line feed
no_feed : (byte : ℕ) → is_plain byte ≡ true → (byte == 10) ≡ false
no_feed byte plain = ne_eqb byte 10 (λ e. cc (rw e at plain))

-- a line before others
line_first : (line rest : List ℕ) → list_all is_plain line ≡ true → lines_in (line ++ 10 ∷ rest) ≡ line ∷ lines_in rest
unfolding lines_in
line_first [] rest plain = refl
line_first (byte ∷ line) rest plain =
    let parts = and_parts (is_plain byte) (list_all is_plain line) plain in
    rw (no_feed byte parts.0) (ap (with_byte byte) (line_first line rest parts.1))

-- all lines
pub lines_written : (lines : List (List (List ℕ))) → lines_in (text_of_all lines) ≡ map line_text lines
unfolding lines_in
lines_written [] = refl
lines_written (line ∷ lines) =
    ap lines_in (append_assoc (line_text line) (codes "\n") (text_of_all lines)) ∙ line_first (line_text line) (text_of_all lines) (line_plain line)
    ∙ ap (λ others. line_text line ∷ others) (lines_written lines)
