-- What stands for a character in a string of a style sheet has nothing that ends the string.
use Rattle.std.proofs.Common.{◌≡◌, ℕ, ◌<◌, ◌/◌, ◌%◌, ◌==◌, Bool, true, ◌||◌, List, [], ◌∷◌, ◌++◌, slice_index, inl, inr, refl, ◌∙◌, arith, codes}
use Rattle.std.proofs.lemmas.Bool.{and_from, cases_Bool}
use Rattle.std.proofs.lemmas.List.Folds.{list_all-append}
use Rattle.std.proofs.lemmas.List.Sums.{AllPass-from_list_all}
use Rattle.std.specs.Char.{is_ascii_alphanumeric}
use Rattle.std.specs.List.{list_all}
use Rattle.hex.specs.Hex.{encode_lower, encode_with, lower_digits}
use Rattle.page_text.specs.Styled.{code_sign, is_styled, style_sign}

-- the digits of codes
digit : (value : ℕ) → value < 16 → is_styled (slice_index lower_digits value) ≡ true
digit value within = AllPass-from_list_all is_styled lower_digits refl value 0 within

digits : (code : ℕ) (codes_behind : List ℕ) → code < 256 → list_all is_styled (encode_lower codes_behind) ≡ true → list_all is_styled (encode_lower (code ∷ codes_behind)) ≡ true
unfolding encode_with
digits code codes_behind small rest =
    let high : code / 16 < 16 = grind (arith, small) in
    let low : code % 16 < 16 = grind arith in
    and_from _ _ (digit (code / 16) high) (and_from _ _ (digit (code % 16) low) rest)

no_digits : list_all is_styled (encode_lower []) ≡ true
unfolding encode_with
no_digits = refl

-- texts one after the other
joined : (first second : List ℕ) → list_all is_styled first ≡ true → list_all is_styled second ≡ true → list_all is_styled (first ++ second) ≡ true
joined first second one other = list_all-append is_styled first second ∙ and_from _ _ one other

code_styled : (character : ℕ) → list_all is_styled (code_sign character) ≡ true
code_styled character =
    let high : character / 65536 % 256 < 256 = grind arith in
    let middle : character / 256 % 256 < 256 = grind arith in
    let low : character % 256 < 256 = grind arith in
    let own : list_all is_styled (encode_lower (character / 65536 % 256 ∷ character / 256 % 256 ∷ character % 256 ∷ [])) ≡ true =
    digits (character / 65536 % 256) (character / 256 % 256 ∷ character % 256 ∷ []) high
    (digits (character / 256 % 256) (character % 256 ∷ []) middle (digits (character % 256) [] low no_digits)) in
    joined (codes "\\") (encode_lower (character / 65536 % 256 ∷ character / 256 % 256 ∷ character % 256 ∷ []) ++ codes " ") refl
    (joined (encode_lower (character / 65536 % 256 ∷ character / 256 % 256 ∷ character % 256 ∷ [])) (codes " ") own refl)

plain_styled : (character : ℕ) → (is_ascii_alphanumeric character || character == 32) ≡ true → list_all is_styled (character ∷ []) ≡ true
plain_styled character plain = simp plain

sign_styled : (character : ℕ) → list_all is_styled (style_sign character) ≡ true
sign_styled character =
    elim (cases_Bool (is_ascii_alphanumeric character || character == 32)) [
      | inl plain ↦ rw plain (plain_styled character plain)
      | inr coded ↦ rw coded (code_styled character)
    ]

-- a text with one more character
pub sign_behind : (text : List ℕ) (character : ℕ) → list_all is_styled text ≡ true → list_all is_styled (text ++ style_sign character) ≡ true
sign_behind text character own = joined text (style_sign character) own (sign_styled character)
