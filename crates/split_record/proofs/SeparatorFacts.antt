-- In a line no control character and no separator of several bytes stands, not even where two parts of it meet.
use Rattle.std.proofs.Common.{◌≡◌, ℕ, zero, suc, ◌-◌, ◌<◌, ◌==◌, nat_le, nat_lt, Bool, true, false, not, ◌&&◌, ◌||◌, List, [], ◌∷◌, ◌++◌, slice_index, ◌⊎◌, inl, inr, refl, sym, ap, ◌∙◌, append_assoc, arith, codes}
use Rattle.std.proofs.lemmas.Bool.{and_from, and_parts, cases_Bool, ne_eqb, or_from, or_parts}
use Rattle.std.proofs.lemmas.Bool.Decides.{nat_tests}
use Rattle.std.specs.Char.{is_ascii_control}
use Rattle.std.specs.List.{flat_map, list_all}
use Rattle.split_record.specs.Laws.{has_no_separator}
use Rattle.split_record.specs.Lines.{field_text, line_text}
use Rattle.split_record.specs.OneLine.{escaped, one_line_behind, starts_control, starts_separator}
use Rattle.split_record.proofs.LineFacts.{ascii_small, control_small, escape_passes, separator_small}

-- whether a byte is of ASCII
abbrev is_small : ℕ → Bool
is_small byte = nat_lt byte 128

abbrev starts_one : List ℕ → Bool
starts_one text = starts_control text || starts_separator text

small : (byte : ℕ) → is_small byte ≡ true → byte < 128
small byte h = grind (arith, nat_tests)

-- none starts at a byte of ASCII
none_at : (byte : ℕ) (others : List ℕ) → byte < 128 → starts_one (byte ∷ others) ≡ false
none_at byte others h = rw (ne_eqb byte 0xC2 (λ e. omega (arith, h, e)), ne_eqb byte 0xE2 (λ e. omega (arith, h, e))) refl

-- nor before one
both_false : (a b d e : Bool) → (((a && false) && b) || ((d && false) && e)) ≡ false
both_false true b true e = refl
both_false true b false e = refl
both_false false b true e = refl
both_false false b false e = refl

not_at_least : (n : ℕ) → n < 128 → nat_le 0x80 n ≡ false
not_at_least n h = grind (arith, nat_tests)

none_before : (byte : ℕ) (others : List ℕ) → slice_index others 0 < 128 → starts_one (byte ∷ others) ≡ false
none_before byte others h =
    rw (not_at_least (slice_index others 0) h, ne_eqb (slice_index others 0) 0x80 (λ e. omega (arith, h, e))) (both_false (byte == 0xC2) _ (byte == 0xE2) _)

-- nor two before one, where none did
last_false : (a b : Bool) → ((a && b) && (false || false)) ≡ false
last_false true true = refl
last_false true false = refl
last_false false b = refl

none_two_before : (byte next : ℕ) (others : List ℕ) → starts_control (byte ∷ next ∷ []) ≡ false → slice_index others 0 < 128
    → starts_one (byte ∷ next ∷ others) ≡ false
none_two_before byte next others none h =
    or_from _ _ none
    (rw (ne_eqb (slice_index others 0) 0xA8 (λ e. omega (arith, h, e)), ne_eqb (slice_index others 0) 0xA9 (λ e. omega (arith, h, e))) (last_false (byte == 0xE2) (next == 0x80)))

-- bytes of ASCII before a text
ascii_before : (first tail : List ℕ) → list_all is_small first ≡ true → has_no_separator tail ≡ true → has_no_separator (first ++ tail) ≡ true
ascii_before [] tail all none = none
ascii_before (byte ∷ first) tail all none =
    let parts = and_parts (is_small byte) (list_all is_small first) all in
    and_from _ _ (ap not (none_at byte (first ++ tail) (small byte parts.0))) (ascii_before first tail parts.1 none)

-- the start of a text is escaped, or stays where none starts
abbrev Escapes : ℕ → List ℕ → Type 0
Escapes byte others =
    (rest : List ℕ) × (behind : ℕ) × (one_line_behind 0 (byte ∷ others) ≡ 0x5C ∷ rest ++ one_line_behind behind others) × (list_all is_small rest ≡ true)

abbrev Stays : ℕ → List ℕ → Type 0
Stays byte others = (one_line_behind 0 (byte ∷ others) ≡ byte ∷ one_line_behind 0 others) × (starts_one (byte ∷ others) ≡ false)

start_of : (byte : ℕ) (others : List ℕ) → Escapes byte others ⊎ Stays byte others
unfolding one_line_behind
start_of byte others =
    let text = byte ∷ others in
    elim (cases_Bool (starts_control text)) [
      | inl long ↦
          inl (escaped (codes "x") (slice_index text 1), 1, rw long refl, escape_passes is_small (codes "x") (slice_index text 1) refl refl (control_small text long))
      | inr short ↦
          elim (cases_Bool (starts_separator text)) [
            | inl parts ↦
                inl (
                  escaped (codes "u20") (slice_index text 2 - 0x80),
                  2,
                  rw (short, parts) refl,
                  escape_passes is_small (codes "u20") (slice_index text 2 - 0x80) refl refl (separator_small text parts),
                )
            | inr other ↦
                elim (cases_Bool (is_ascii_control byte)) [
                  | inl control ↦
                      inl (escaped (codes "x") byte, 0, rw (short, other, control) refl, escape_passes is_small (codes "x") byte refl refl (ascii_small byte control))
                  | inr plain ↦ inr (rw (short, other, plain) refl, or_from _ _ short other)
                ]
          ]
    ]

-- what is written of a text before another one starts with a byte of ASCII, or as the text
abbrev StaysFirst : List ℕ → List ℕ → Type 0
StaysFirst text tail = (byte : ℕ) × (others : List ℕ) × (text ≡ byte ∷ others) × (one_line_behind 0 text ++ tail ≡ byte ∷ one_line_behind 0 others ++ tail)

first_of : (text tail : List ℕ) → slice_index tail 0 < 128 → (slice_index (one_line_behind 0 text ++ tail) 0 < 128) ⊎ StaysFirst text tail
unfolding one_line_behind
first_of [] tail low = inl low
first_of (byte ∷ others) tail low =
    elim (start_of byte others) [
      | inl (rest, behind, same, all) ↦ inl (rw same (omega arith))
      | inr (same, none) ↦ inr (byte, others, refl, ap (λ l. l ++ tail) same)
    ]

-- where none starts in a text, none does in what is written of it
still_none : (byte : ℕ) (others tail : List ℕ) → slice_index tail 0 < 128 → starts_one (byte ∷ others) ≡ false
    → starts_one (byte ∷ one_line_behind 0 others ++ tail) ≡ false
still_none byte others tail low none =
    elim (first_of others tail low) [
      | inl h ↦ none_before byte (one_line_behind 0 others ++ tail) h
      | inr (next, more, same, out) ↦
          let here : starts_one (byte ∷ next ∷ more) ≡ false = ap (λ l. starts_one (byte ∷ l)) (sym same) ∙ none in
          let parts = or_parts (starts_control (byte ∷ next ∷ more)) (starts_separator (byte ∷ next ∷ more)) here in
          ap (λ l. starts_one (byte ∷ l)) out
          ∙ elim (first_of more tail low) [
            | inl h ↦ none_two_before byte next (one_line_behind 0 more ++ tail) parts.0 h
            | inr (third, rest, same, out) ↦
                ap (λ l. starts_one (byte ∷ next ∷ l)) out ∙ ap (λ l. starts_one (byte ∷ next ∷ l)) (sym same) ∙ here
          ]
    ]

-- a text in one line before another one that starts with a byte of ASCII
none_in : (behind : ℕ) (text tail : List ℕ) → slice_index tail 0 < 128 → has_no_separator tail ≡ true → has_no_separator (one_line_behind behind text ++ tail) ≡ true
unfolding one_line_behind
none_in zero [] tail low none = none
none_in (suc behind) [] tail low none = none
none_in (suc behind) (byte ∷ others) tail low none = none_in behind others tail low none
none_in zero (byte ∷ others) tail low none =
    elim (start_of byte others) [
      | inl (rest, behind, same, all) ↦
          ap (λ l. has_no_separator (l ++ tail)) same
          ∙ and_from _ _ (ap not (none_at 0x5C ((rest ++ one_line_behind behind others) ++ tail) (omega arith)))
          (ap has_no_separator (append_assoc rest (one_line_behind behind others) tail) ∙ ascii_before rest (one_line_behind behind others ++ tail) all (none_in behind others tail low none))
      | inr (same, stays) ↦
          ap (λ l. has_no_separator (l ++ tail)) same
          ∙ and_from _ _ (ap not (still_none byte others tail low stays)) (none_in zero others tail low none)
    ]

-- fields start with a comma, or there is none
fields_low : (fields : List (List ℕ)) → slice_index (flat_map field_text fields) 0 < 128
fields_low [] = omega arith
fields_low (field ∷ fields) = omega arith

fields_have_none : (fields : List (List ℕ)) → has_no_separator (flat_map field_text fields) ≡ true
fields_have_none [] = refl
fields_have_none (field ∷ fields) =
    and_from _ _ (ap not (none_at 44 (one_line_behind 0 field ++ flat_map field_text fields) (omega arith)))
    (none_in 0 field (flat_map field_text fields) (fields_low fields) (fields_have_none fields))

-- a line
pub line_has_none : (line : List (List ℕ)) → has_no_separator (line_text line) ≡ true
line_has_none [] = refl
line_has_none (kind ∷ fields) = none_in 0 kind (flat_map field_text fields) (fields_low fields) (fields_have_none fields)
