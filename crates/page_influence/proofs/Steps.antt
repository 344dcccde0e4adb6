-- Steps of the loops over the fixes that stand for corners: one more of them.
use Rattle.std.proofs.Common.{◌≡◌, ◌∙◌, ℕ, ◌<◌, Bool, true, ◌⊎◌, inl, inr, Contains, List, [], ◌∷◌, ◌++◌, length, get_or, set, arith, refl, sym, ap, subst, length-append, length-set, get_or-set_other, get_or-set_same}
use Rattle.std.proofs.Math.ListN.{get_or-append}
use Rattle.std.proofs.Math.Seq.{get_or-append_seam}
use Rattle.std.proofs.lemmas.Bool.{cases_eq, cases_lt}
use Rattle.std.proofs.lemmas.List.Elements.{Contains-append_left, Contains-push, Contains-push_cases}
use Rattle.range_plane.specs.Edges.{at}
use Rattle.range_plane.specs.Plane.{Position, origin}
use Rattle.page_influence.specs.Influence.{IsAreaOf}
use Rattle.page_influence.specs.Layers.{AreCornerFixes, AreFlags, IsSetAt, other_corners}

-- what stands at the index behind a list, once one more is put there
at_end : {X : Type 0} (xs : List X) (x d : X) (k : ℕ) → k ≡ length xs → get_or (xs ++ x ∷ []) k d ≡ x
at_end xs x d k end = ap (λ n. get_or (xs ++ x ∷ []) n d) end ∙ get_or-append_seam xs x [] d

-- each index of a list with one more is one of the list, or that of the one
before_or_end : {X : Type 0} (xs : List X) (x : X) (k : ℕ) → k < length (xs ++ x ∷ []) → (k < length xs) ⊎ (k ≡ length xs)
before_or_end xs x k inside = elim (cases_lt k (length xs)) [
  | inl before ↦ inl before
  | inr behind ↦ inr (omega (arith, behind, inside, length-append xs (x ∷ [])))
]

-- a fix at one more corner
pub corner_more : (points corners : List Position) (c : Position) (fixes : List ℕ) (f : ℕ) → AreCornerFixes points corners fixes → f < length points
    → at points f ≡ c → AreCornerFixes points (corners ++ c ∷ []) (fixes ++ f ∷ [])
corner_more points corners c fixes f own within here = record {
  same_length = omega (arith, own.same_length, length-append fixes (f ∷ []), length-append corners (c ∷ []));
  within = λ k inside. elim (before_or_end fixes f k inside) [
    | inl before ↦ subst (λ n. n < length points) (sym (get_or-append fixes (f ∷ []) 0 k before)) (own.within k before)
    | inr end ↦ subst (λ n. n < length points) (sym (at_end fixes f 0 k end)) within
  ];
  there = λ k inside. elim (before_or_end fixes f k inside) [
    | inl before ↦
        let old : k < length corners = omega (arith, before, own.same_length) in
        ap (at points) (get_or-append fixes (f ∷ []) 0 k before) ∙ own.there k before ∙ sym (get_or-append corners (c ∷ []) origin k old)
    | inr end ↦
        let last : k ≡ length corners = omega (arith, end, own.same_length) in ap (at points) (at_end fixes f 0 k end) ∙ here ∙ sym (at_end corners c origin k last)
  ];
}

-- a flag for one more fix
pub flag_more : (count : ℕ) (fixes : List ℕ) (f : ℕ) (flags : List Bool) → AreFlags count fixes flags → f < count
    → AreFlags count (fixes ++ f ∷ []) (set flags f true)
flag_more count fixes f flags own within =
    let here : f < length flags = omega (arith, within, own.same_length) in
    let flagged : (i : ℕ) → get_or flags i true ≡ true → get_or (set flags f true) i true ≡ true = λ i yes. elim (cases_eq i f) [
      | inl is ↦ ap (λ j. get_or (set flags f true) j true) is ∙ get_or-set_same flags f true true here
      | inr apart ↦ get_or-set_other flags f i true true apart ∙ yes
    ] in
    record {
      same_length = length-set flags f true ∙ own.same_length;
      flagged = λ k inside. elim (before_or_end fixes f k inside) [
        | inl before ↦ ap (λ j. get_or (set flags f true) j true) (get_or-append fixes (f ∷ []) 0 k before) ∙ flagged (get_or fixes k 0) (own.flagged k before)
        | inr end ↦ ap (λ j. get_or (set flags f true) j true) (at_end fixes f 0 k end) ∙ get_or-set_same flags f true true here
      ];
      only = λ i inside yes. elim (cases_eq i f) [
        | inl is ↦ subst (Contains (fixes ++ f ∷ [])) (sym is) (Contains-push fixes f)
        | inr apart ↦ Contains-append_left fixes (f ∷ []) i (own.only i inside (sym (get_or-set_other flags f i true true apart) ∙ yes))
      ];
    }

-- an area for one more fix
pub set_more : (corners inner : List Position) (fixes : List ℕ) (f : ℕ) (old new : List ℕ) (area : ℕ) → f < length new
    → IsAreaOf (other_corners corners (length fixes) inner) area → (i : ℕ) → IsSetAt corners inner fixes old new i
    → IsSetAt corners inner (fixes ++ f ∷ []) old (set new f area) i
set_more corners inner fixes f old new area within is i own = elim (cases_eq i f) [
  | inl here ↦
      let read : get_or (set new f area) i 0 ≡ area = ap (λ j. get_or (set new f area) j 0) here ∙ get_or-set_same new f area 0 within in
      inl (
        length fixes,
        omega (arith, length-append fixes (f ∷ [])),
        at_end fixes f 0 (length fixes) refl ∙ sym here,
        subst (IsAreaOf (other_corners corners (length fixes) inner)) (sym read) is,
      )
  | inr apart ↦
      let read : get_or (set new f area) i 0 ≡ get_or new i 0 = get_or-set_other new f i area 0 apart in
      elim own [
        | inl (k, inside, stands, known) ↦ inl (
          k,
          omega (arith, inside, length-append fixes (f ∷ [])),
          get_or-append fixes (f ∷ []) 0 k inside ∙ stands,
          subst (IsAreaOf (other_corners corners k inner)) (sym read) known,
        )
        | inr (other, kept) ↦
            inr ((λ has. elim (Contains-push_cases fixes f i has) [ inl one ↦ other one | inr last ↦ apart (sym last) ]), read ∙ kept)
      ]
]
