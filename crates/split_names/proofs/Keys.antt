-- What names with a number fold to: something else with each number.
use Rattle.std.proofs.Common.{◌≡◌, ℕ, ◌-◌, ◌<◌, ◌^◌, ◌==◌, true, false, inl, inr, List, [], ◌∷◌, ◌++◌, length, map, decimal, chars, encode_utf8_all, refl, sym, ap, ap₂, subst, ◌∙◌, arith}
use Rattle.std.proofs.lemmas.Bool.{cases_Bool, ne_eqb}
use Rattle.std.proofs.lemmas.Bool.Decides.{nat_tests}
use Rattle.std.proofs.lemmas.Fmt.{IsAscii-decimal, decimal_is_IsNumeral}
use Rattle.std.proofs.lemmas.Str.{IsCharBoundary-at_seam, IsUtf8-from_ascii, IsUtf8-from_is_utf8, IsUtf8-take, chars-append, chars_from_encodes, encodes-IsAscii, encodes-append}
use Rattle.std.proofs.lemmas.Str.Ascii.{All-from_ascii, IsAscii-cons}
use Rattle.std.proofs.lemmas.Str.Parse.{digit_from_value}
use Rattle.std.proofs.Math.Seq.{take-append_seam}
use Rattle.std.specs.Char.{to_ascii_lowercase}
use Rattle.std.specs.List.{list_any}
use Rattle.std.specs.Str.{IsAscii, IsUtf8, is_utf8}
use Rattle.std.specs.Str.Parse.{AllDigits, digits_value}
use Rattle.caseless.proofs.CaselessLemmas.{default_case_fold-append, default_case_fold-ascii}
use Rattle.caseless.specs.Caseless.{canonical_key, default_case_fold}
use Rattle.unicode_normalization.proofs.FormsLemmas.{normalize-ascii, normalize-ascii_boundary}
use Rattle.unicode_normalization.specs.Forms.{Nfd, nfd}
use Rattle.split_names.specs.Cut.{cut}
use Rattle.split_names.specs.Names.{ending, folded, with_number}

-- ---- a text with an ending of ASCII that has no capitals
module _ (digits : List ℕ) (ascii : IsAscii (95 ∷ digits)) (small : map to_ascii_lowercase (95 ∷ digits) ≡ 95 ∷ digits) where
  end_chars : chars (95 ∷ digits) ≡ 95 ∷ digits
  end_chars = sym (chars_from_encodes (95 ∷ digits) (95 ∷ digits) (IsUtf8-from_ascii (95 ∷ digits) ascii) (encodes-IsAscii (95 ∷ digits) ascii))

  nfd_end : (signs : List ℕ) → nfd (signs ++ 95 ∷ digits) ≡ nfd signs ++ 95 ∷ digits
  nfd_end signs = normalize-ascii_boundary Nfd signs 95 digits (omega arith)
      ∙ ap (λ l. nfd signs ++ l) (normalize-ascii Nfd (95 ∷ digits) (All-from_ascii (95 ∷ digits) ascii))

  fold_end : (signs : List ℕ) → default_case_fold (signs ++ 95 ∷ digits) ≡ default_case_fold signs ++ 95 ∷ digits
  fold_end signs = default_case_fold-append signs (95 ∷ digits)
      ∙ ap (λ l. default_case_fold signs ++ l) (default_case_fold-ascii (95 ∷ digits) (All-from_ascii (95 ∷ digits) ascii) ∙ small)

  key_end : (signs : List ℕ) → canonical_key (signs ++ 95 ∷ digits) ≡ canonical_key signs ++ 95 ∷ digits
  key_end signs = ap (λ l. nfd (default_case_fold l)) (nfd_end signs) ∙ (ap nfd (fold_end (nfd signs)) ∙ nfd_end (default_case_fold (nfd signs)))

  front_utf8 : (front : List ℕ) → IsUtf8 (front ++ 95 ∷ digits) → IsUtf8 front
  front_utf8 front utf8 = subst IsUtf8 (take-append_seam front (95 ∷ digits))
      (IsUtf8-take (front ++ 95 ∷ digits) (length front) utf8
      (IsCharBoundary-at_seam (front ++ 95 ∷ digits) front (95 ∷ digits) refl (IsUtf8-from_ascii (95 ∷ digits) ascii)))

  -- what it folds to has the same ending
  folded_end : (front : List ℕ) → (key : List ℕ) × (folded (front ++ 95 ∷ digits) ≡ key ++ 95 ∷ digits)
  unfolding folded
  folded_end front = elim (cases_Bool (is_utf8 (front ++ 95 ∷ digits))) [
    | inl is ↦
        let utf8 = front_utf8 front (IsUtf8-from_is_utf8 (front ++ 95 ∷ digits) is) in
        let signs : chars (front ++ 95 ∷ digits) ≡ chars front ++ 95 ∷ digits = chars-append front (95 ∷ digits) utf8 ∙ ap (λ l. chars front ++ l) end_chars in (
          encode_utf8_all (canonical_key (chars front)),
          rw is (
              ap (λ l. encode_utf8_all (canonical_key l)) signs
              ∙ (ap encode_utf8_all (key_end (chars front))
              ∙ (encodes-append (canonical_key (chars front)) (95 ∷ digits)
              ∙ ap (λ l. encode_utf8_all (canonical_key (chars front)) ++ l) (encodes-IsAscii (95 ∷ digits) ascii)))),
        )
    | inr is_not ↦ (front, rw is_not refl)
  ]

-- ---- digits
no_mark : (digits : List ℕ) → AllDigits 10 digits → list_any (λ b. b == 95) digits ≡ false
no_mark [] all = refl
no_mark (d ∷ digits) all =
    let range = digit_from_value d all.0 in rw (ne_eqb d 95 (λ e. omega (arith, range, e))) (no_mark digits all.1)

no_capital : (digits : List ℕ) → AllDigits 10 digits → map to_ascii_lowercase digits ≡ digits
no_capital [] all = refl
no_capital (d ∷ digits) all =
    let range = digit_from_value d all.0 in
    let same : to_ascii_lowercase d ≡ d = grind (arith, nat_tests, range) in
    ap₂ (λ b l. b ∷ l) same (no_capital digits all.1)

-- ---- the last mark
has_mark : (front behind : List ℕ) → list_any (λ b. b == 95) (front ++ 95 ∷ behind) ≡ true
has_mark [] behind = refl
has_mark (b ∷ front) behind = elim (cases_Bool (b == 95)) [ inl is ↦ rw is refl | inr is_not ↦ rw is_not (has_mark front behind) ]

-- what stands behind the last mark is told by the whole
last_same : (front other digits more : List ℕ) → list_any (λ b. b == 95) digits ≡ false → list_any (λ b. b == 95) more ≡ false
    → front ++ 95 ∷ digits ≡ other ++ 95 ∷ more → digits ≡ more
last_same [] [] digits more none no_more same = cc
last_same [] (b ∷ other) digits more none no_more same =
    let behind : digits ≡ other ++ 95 ∷ more = cc in absurd (cc (sym none, ap (list_any (λ b. b == 95)) behind, has_mark other more))
last_same (b ∷ front) [] digits more none no_more same =
    let behind : front ++ 95 ∷ digits ≡ more = cc in absurd (cc (sym no_more, ap (list_any (λ b. b == 95)) behind, has_mark front digits))
last_same (b ∷ front) (d ∷ other) digits more none no_more same =
    let rest : front ++ 95 ∷ digits ≡ other ++ 95 ∷ more = cc in last_same front other digits more none no_more rest

-- a name folds to something else with each number
pub number_told : (name : List ℕ) (n m : ℕ) → n < 2 ^ 64 → m < 2 ^ 64 → folded (with_number name n) ≡ folded (with_number name m) → n ≡ m
unfolding with_number
number_told name n m small other_small same =
    let one = decimal_is_IsNumeral n small in
    let other = decimal_is_IsNumeral m other_small in
    let key = folded_end (decimal n) (IsAscii-cons 95 (decimal n) (omega arith) (IsAscii-decimal n small)) (ap (λ l. 95 ∷ l) (no_capital (decimal n) one.0.1))
    (cut (32 - length (ending n)) name)
    in
    let other_key = folded_end (decimal m) (IsAscii-cons 95 (decimal m) (omega arith) (IsAscii-decimal m other_small)) (ap (λ l. 95 ∷ l) (no_capital (decimal m) other.0.1))
    (cut (32 - length (ending m)) name)
    in
    let digits = last_same key.0 other_key.0 (decimal n) (decimal m) (no_mark (decimal n) one.0.1) (no_mark (decimal m) other.0.1) (sym key.1 ∙ (same ∙ other_key.1)) in
    sym one.1 ∙ (ap (digits_value 10) digits ∙ other.1)
