-- A cell is read back.
use Rattle.std.proofs.Common.{◌≡◌, ℕ, ◌==◌, true, false, ◌||◌, List, [], ◌∷◌, ◌++◌, inl, inr, refl, sym, ap, subst, ◌∙◌, arith, append_assoc}
use Rattle.std.proofs.lemmas.Bool.{cases_Bool}
use Rattle.std.proofs.lemmas.Bool.Decides.{nat_tests}
use Rattle.std.specs.List.{flat_map, list_any}
use lib.Dec.{T}
use Rattle.page_text.specs.Cells.{cell, in_quotes, is_formula, is_special, quoted_byte, read_cell, read_plain, read_quoted, shown_cell, text_of_cell}
use Rattle.page_text.specs.Laws.{ends_cell}

never : {A : Type 0} → false ≡ true → A
never e = absurd (subst T (sym e) tt)

-- what ends a cell is no quote, and is special
no_quote : (byte : ℕ) → (byte == 44 || byte == 10) ≡ true → (byte == 34) ≡ false
no_quote byte ends = grind (arith, nat_tests)

is_end : (byte : ℕ) → (byte == 44 || byte == 10) ≡ true → is_special byte ≡ true
is_end byte ends = grind (arith, nat_tests)

no_plain_quote : (byte : ℕ) → is_special byte ≡ false → (byte == 34) ≡ false
no_plain_quote byte plain = grind (arith, nat_tests)

-- a plain text is read before what ends it
read_plain_text : (text rest : List ℕ) → list_any is_special text ≡ false → ends_cell rest ≡ true → read_plain (text ++ rest) ≡ (text, rest)
unfolding read_plain
read_plain_text [] [] plain ends = refl
read_plain_text [] (byte ∷ others) plain ends = rw (is_end byte ends) refl
read_plain_text (byte ∷ text) rest plain ends =
    elim (cases_Bool (is_special byte)) [
      | inl special ↦ never (sym plain ∙ ap (λ v. v || list_any is_special text) special)
      | inr own ↦
          let others : list_any is_special text ≡ false = sym (ap (λ v. v || list_any is_special text) own) ∙ plain in
          rw (own, read_plain_text text rest others ends) refl
    ]

-- a text in quotes is read up to the quote that ends it
read_quoted_text : (text rest : List ℕ) → ends_cell rest ≡ true → read_quoted false (flat_map quoted_byte text ++ (34 ∷ rest)) ≡ (text, rest)
unfolding read_quoted
read_quoted_text [] [] ends = refl
read_quoted_text [] (byte ∷ others) ends = rw (no_quote byte ends) refl
read_quoted_text (byte ∷ text) rest ends =
    elim (cases_Bool (byte == 34)) [
      | inl quote ↦
          let same : byte ≡ 34 = grind (arith, nat_tests, quote) in
          rw (same, read_quoted_text text rest ends) refl
      | inr other ↦ rw (other, other, read_quoted_text text rest ends) refl
    ]

-- the first cell of a record
read_first : (text rest : List ℕ) → list_any is_special text ≡ false → ends_cell rest ≡ true → read_cell (text ++ rest) ≡ (text, rest)
read_first [] [] plain ends = refl
read_first [] (byte ∷ others) plain ends = rw (no_quote byte ends) (read_plain_text [] (byte ∷ others) plain ends)
read_first (byte ∷ text) rest plain ends =
    elim (cases_Bool (is_special byte)) [
      | inl special ↦ never (sym plain ∙ ap (λ v. v || list_any is_special text) special)
      | inr own ↦ rw (no_plain_quote byte own) (read_plain_text (byte ∷ text) rest plain ends)
    ]

read_in_quotes : (text rest : List ℕ) → ends_cell rest ≡ true → read_cell (in_quotes text ++ rest) ≡ (text, rest)
read_in_quotes text rest ends =
    elim (cases_Bool (list_any is_special text)) [
      | inl special ↦ rw (special, append_assoc (flat_map quoted_byte text) (34 ∷ []) rest) (read_quoted_text text rest ends)
      | inr plain ↦ rw plain (read_first text rest plain ends)
    ]

-- the text of a cell, without the apostrophe
no_apostrophe : (byte : ℕ) → is_formula byte ≡ false → (byte == 39) ≡ false
no_apostrophe byte plain = grind (arith, nat_tests)

text_back : (text : List ℕ) → text_of_cell (shown_cell text) ≡ text
text_back [] = refl
text_back (byte ∷ others) =
    elim (cases_Bool (is_formula byte)) [
      | inl formula ↦ rw formula refl
      | inr plain ↦ rw (plain, no_apostrophe byte plain) refl
    ]

pub cell_back : (text rest : List ℕ) → ends_cell rest ≡ true
    → (read_cell (cell text ++ rest) ≡ (shown_cell text, rest)) × (text_of_cell (shown_cell text) ≡ text)
cell_back text rest ends = (read_in_quotes (shown_cell text) rest ends, text_back text)
