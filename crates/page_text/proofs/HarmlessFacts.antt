-- What is shown of a text is harmless.
use Rattle.std.proofs.Common.{◌≡◌, ℕ, zero, suc, ◌<◌, ◌/◌, ◌%◌, ◌==◌, Bool, true, false, not, ◌&&◌, List, [], ◌∷◌, ◌++◌, slice_index, inl, inr, refl, ◌∙◌, arith, codes}
use Rattle.std.proofs.lemmas.Bool.{and_from, and_parts, cases_Bool}
use Rattle.std.proofs.lemmas.Bool.Decides.{nat_tests}
use Rattle.std.proofs.lemmas.List.Folds.{list_all-append}
use Rattle.std.proofs.lemmas.List.Sums.{AllPass-from_list_all}
use Rattle.std.specs.Char.{is_ascii_control}
use Rattle.std.specs.List.{list_all}
use Rattle.hex.specs.Hex.{encode_lower, encode_with, lower_digits}
use Rattle.page_text.specs.Laws.{is_harmless, is_plain}
use Rattle.page_text.specs.Shown.{bytes_behind, entity, escaped_behind, is_hidden, long_escape, short_escape, sign_text, starts_control, starts_wide, wide_code}

-- bytes that stand for themselves, before others
abbrev is_letter : ℕ → Bool
is_letter byte = is_plain byte && not (byte == 38)

letters_before : (letters others : List ℕ) → list_all is_letter letters ≡ true → is_harmless others ≡ true → is_harmless (letters ++ others) ≡ true
unfolding is_harmless
letters_before [] others all rest = rest
letters_before (byte ∷ letters) others all rest =
    let parts = and_parts (is_letter byte) (list_all is_letter letters) all in
    let own = and_parts (is_plain byte) (not (byte == 38)) parts.0 in
    rw (own.0, own.1) (letters_before letters others parts.1 rest)

-- the digits of codes
digit : (value : ℕ) → value < 16 → is_letter (slice_index lower_digits value) ≡ true
digit value within = AllPass-from_list_all is_letter lower_digits refl value 0 within

digits : (code : ℕ) (codes_behind : List ℕ) → code < 256 → list_all is_letter (encode_lower codes_behind) ≡ true → list_all is_letter (encode_lower (code ∷ codes_behind)) ≡ true
unfolding encode_with
digits code codes_behind small rest =
    let high : code / 16 < 16 = grind (arith, small) in
    let low : code % 16 < 16 = grind arith in
    and_from _ _ (digit (code / 16) high) (and_from _ _ (digit (code % 16) low) rest)

no_digits : list_all is_letter (encode_lower []) ≡ true
unfolding encode_with
no_digits = refl

marked : (mark : List ℕ) (codes_behind : List ℕ) → list_all is_letter mark ≡ true → list_all is_letter (encode_lower codes_behind) ≡ true
    → list_all is_letter (mark ++ encode_lower codes_behind) ≡ true
marked mark codes_behind one other = list_all-append is_letter mark (encode_lower codes_behind) ∙ and_from _ _ one other

short_letters : (code : ℕ) → code < 256 → list_all is_letter (short_escape code) ≡ true
short_letters code small = marked (codes "\\x") (code ∷ []) refl (digits code [] small no_digits)

long_letters : (code : ℕ) → code < 65536 → list_all is_letter (long_escape code) ≡ true
long_letters code small =
    let high : code / 256 < 256 = grind (arith, small) in
    let low : code % 256 < 256 = grind arith in
    marked (codes "\\u") (code / 256 ∷ code % 256 ∷ []) refl (digits (code / 256) (code % 256 ∷ []) high (digits (code % 256) [] low no_digits))

-- the codes that are written out
control_small : (text : List ℕ) → starts_control text ≡ true → slice_index text 1 < 256
control_small text h = grind (arith, nat_tests)

ascii_small : (byte : ℕ) → is_ascii_control byte ≡ true → byte < 256
ascii_small byte h = grind (arith, nat_tests)

hidden_small : (code : ℕ) → is_hidden code ≡ true → code < 65536
hidden_small code h = grind (arith, nat_tests)

-- a byte that is no control character, as text in HTML
entity_harmless : (byte : ℕ) (others : List ℕ) → is_ascii_control byte ≡ false → is_harmless others ≡ true → is_harmless (entity byte ++ others) ≡ true
unfolding is_harmless
entity_harmless byte others seen rest =
    elim (cases_Bool (byte == 38)) [
      | inl and_sign ↦ rw and_sign rest
      | inr a ↦
          elim (cases_Bool (byte == 60)) [
            | inl less ↦ rw (a, less) rest
            | inr b ↦
                elim (cases_Bool (byte == 62)) [
                  | inl more ↦ rw (a, b, more) rest
                  | inr d ↦
                      elim (cases_Bool (byte == 34)) [
                        | inl quote ↦ rw (a, b, d, quote) rest
                        | inr e ↦
                            elim (cases_Bool (byte == 39)) [
                              | inl apostrophe ↦ rw (a, b, d, e, apostrophe) rest
                              | inr f ↦
                                  let own : is_letter byte ≡ true = simp (seen, a, b, d, e, f) in
                                  rw (a, b, d, e, f) (letters_before (byte ∷ []) others (and_from (is_letter byte) true own refl) rest)
                            ]
                      ]
                ]
          ]
    ]

-- what is shown for the start of a text, before others
sign_harmless : (text others : List ℕ) → is_harmless others ≡ true → is_harmless (sign_text text ++ others) ≡ true
sign_harmless text others rest =
    elim (cases_Bool (starts_wide text && is_hidden (wide_code text))) [
      | inl hidden ↦
          let parts = and_parts (starts_wide text) (is_hidden (wide_code text)) hidden in
          rw hidden (letters_before (long_escape (wide_code text)) others (long_letters (wide_code text) (hidden_small (wide_code text) parts.1)) rest)
      | inr seen ↦
          elim (cases_Bool (starts_control text)) [
            | inl long ↦ rw (seen, long) (letters_before (short_escape (slice_index text 1)) others (short_letters (slice_index text 1) (control_small text long)) rest)
            | inr short ↦
                elim (cases_Bool (is_ascii_control (slice_index text 0))) [
                  | inl control ↦
                      rw (seen, short, control) (letters_before (short_escape (slice_index text 0)) others
                      (short_letters (slice_index text 0) (ascii_small (slice_index text 0) control)) rest)
                  | inr plain ↦ rw (seen, short, plain) (entity_harmless (slice_index text 0) others plain rest)
                ]
          ]
    ]

-- a text as it is shown
pub shown_harmless : (behind : ℕ) (text : List ℕ) → is_harmless (escaped_behind behind text) ≡ true
unfolding escaped_behind is_harmless
shown_harmless zero [] = refl
shown_harmless (suc behind) [] = refl
shown_harmless zero (byte ∷ others) =
    sign_harmless (byte ∷ others) (escaped_behind (bytes_behind (byte ∷ others)) others) (shown_harmless (bytes_behind (byte ∷ others)) others)
shown_harmless (suc behind) (byte ∷ others) = shown_harmless behind others
