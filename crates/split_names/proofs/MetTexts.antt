-- Texts that a set has met, one after the other.
use Rattle.std.proofs.Common.{◌≡◌, ℕ, ◌+◌, Bool, true, false, ◌||◌, List, [], ◌∷◌, ◌++◌, None, Some, map, inl, inr, refl, sym, ap, ◌∙◌, arith, if◌then◌else◌}
use Rattle.std.proofs.lemmas.Bool.{cases_Bool}
use Rattle.std.proofs.lemmas.List.{map_push}
use Rattle.std.proofs.lemmas.List.Folds.{list_any-append}
use Rattle.std.proofs.lemmas.Slice.Eq.{bytes_eq-Decides}
use Rattle.std.specs.Borrow.{Bor}
use Rattle.std.specs.List.{list_any, position_from, position_or_len}
use Rattle.std.specs.Str.{bytes_eq}
use Rattle.indexmap.specs.IndexSet.{insert_key}

-- a text where it stands
abbrev pub Text : Type 0
Text = Bor (List ℕ)

abbrev pub same : Text → Text → Bool
same one other = bytes_eq one.now other.now

-- the bytes of texts
abbrev pub met : List Text → List (List ℕ)
met texts = map (λ (text : Text). text.now) texts

same_bytes : (one other : List ℕ) → bytes_eq one other ≡ true → one ≡ other
same_bytes one other is = (bytes_eq-Decides one other).0 is

-- a text that was met stands where the set has it
pub place_met : (texts : List Text) (text : Text) (i : ℕ) → list_any (same text) texts ≡ true
    → position_from (bytes_eq text.now) i (met texts) ≡ Some (i + position_or_len (same text) texts)
place_met [] text i is = absurd (cc is)
place_met (one ∷ texts) text i is = elim (cases_Bool (bytes_eq text.now one.now)) [
  | inl here ↦ rw here (ap Some (let here_it_is : i ≡ i + 0 = omega arith in here_it_is))
  | inr later ↦ rw later (place_met texts text (i + 1) (rw later at is)
      ∙ ap Some (let more : i + 1 + position_or_len (same text) texts ≡ i + (1 + position_or_len (same text) texts) = omega arith in more))
]

pub no_place : (texts : List Text) (text : Text) (i : ℕ) → list_any (same text) texts ≡ false → position_from (bytes_eq text.now) i (met texts) ≡ None
no_place [] text i is_not = refl
no_place (one ∷ texts) text i is_not = elim (cases_Bool (bytes_eq text.now one.now)) [
  | inl here ↦ absurd (cc (rw here at is_not))
  | inr later ↦ rw later (no_place texts text (i + 1) (rw later at is_not))
]

-- a new text stands behind the others
pub met_more : (texts after : List Text) (text : Text) → list_any (same text) texts ≡ false → after ≡ insert_key same texts text
    → met after ≡ met texts ++ text.now ∷ []
met_more texts after text new is =
    ap met (is ∙ ap (λ b. if b then texts else (texts ++ text ∷ [])) new) ∙ map_push (λ (one : Text). one.now) texts text

-- a set tells of each text whether it is among these
abbrev pub Tells : List Text → List (List ℕ) → Type 0
Tells texts all = (text : Text) → list_any (same text) texts ≡ list_any (bytes_eq text.now) all

-- also after one more, which it keeps once
pub tells_more : (texts after : List Text) (all : List (List ℕ)) (text : Text) → Tells texts all → after ≡ insert_key same texts text
    → Tells after (all ++ text.now ∷ [])
tells_more texts after all text tells is one = elim (cases_Bool (list_any (same text) texts)) [
  | inl old ↦ ap (list_any (same one)) (is ∙ ap (λ b. if b then texts else (texts ++ text ∷ [])) old) ∙ (tells one
      ∙ sym (list_any-append (bytes_eq one.now) all (text.now ∷ []) ∙ elim (cases_Bool (bytes_eq one.now text.now)) [
        | inl here ↦
            let among : list_any (bytes_eq one.now) all ≡ true =
            sym (tells one) ∙ (ap (λ b. list_any (λ (other : Text). bytes_eq b other.now) texts) (same_bytes one.now text.now here) ∙ old)
            in
            rw among refl
        | inr other ↦ elim (cases_Bool (list_any (bytes_eq one.now) all)) [ inl among ↦ rw (other, among) refl | inr none ↦ rw (other, none) refl ]
      ]))
  | inr new ↦ ap (list_any (same one)) (is ∙ ap (λ b. if b then texts else (texts ++ text ∷ [])) new)
      ∙ (list_any-append (same one) texts (text ∷ []) ∙ (ap (λ b. b || (bytes_eq one.now text.now || false)) (tells one)
      ∙ sym (list_any-append (bytes_eq one.now) all (text.now ∷ []))))
]
