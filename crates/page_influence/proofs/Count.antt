-- There are no more corners, of the polygon of all fixes and of that of the rest together, than fixes.
use Rattle.std.proofs.Common.{◌≡◌, ◌≢◌, ◌∙◌, ℕ, ◌+◌, ◌<◌, ◌≤◌, suc, ◌==◌, ◌⊎◌, inl, inr, All, AllPairs, Contains, List, [], ◌∷◌, ◌++◌, length, get_or, arith, sym, ap, subst, length-append}
use Rattle.std.proofs.lemmas.Bool.{eqb-true}
use Rattle.std.proofs.lemmas.Bool.Decides.{Decides-eqb}
use Rattle.std.proofs.lemmas.List.Elements.{All-contains, All-from_get_or, All-push, All-weaker, Contains-get_or}
use Rattle.std.proofs.lemmas.List.Quantifiers.{all_pairs_push}
use Rattle.std.proofs.lemmas.List.{get_or_default}
use Rattle.std.proofs.lemmas.Map.Made.{IsDistinct-from_AllPairs}
use Rattle.std.proofs.lemmas.Map.Steps.{length-le_from_distinct_below}
use Rattle.std.proofs.lemmas.Map.Views.{Contains-from_any}
use Rattle.range_lemmas.proofs.Members.{contains_first, contains_later}
use Rattle.range_plane.specs.Edges.{at}
use Rattle.range_plane.specs.Plane.{Position}
use Rattle.page_influence.specs.Layers.{AreCornerFixes, IsOther, IsPolygonWithout}
use Rattle.page_influence.proofs.Layers.{fixes_apart}

-- numbers below n of which no two are equal are at most n
at_most : (ns : List ℕ) (n : ℕ) → AllPairs (λ i j. i ≢ j) ns → All (λ i. i < n) ns → length ns ≤ n
at_most ns n apart below =
    length-le_from_distinct_below ns n (IsDistinct-from_AllPairs {eq = ◌==◌} Decides-eqb ns apart)
    (λ q is. All-contains (λ i. i < n) ns q below (Contains-from_any {eq = ◌==◌} eqb-true q ns is))

module _ (points : List Position) (fixes : List ℕ) where
  -- a fix that is one of these, or at none of some places
  abbrev Taken : List Position → ℕ → Type 0
  Taken M i = (i < length points) × (Contains fixes i ⊎ ((x : Position) → Contains M x → at points i ≢ x))

  -- where each of some places, of which no two are one, has a fix that is none of these, one after the other is taken
  grown : (M : List Position) → AllPairs (λ a b. a ≢ b) M
      → ((x : Position) → Contains M x → (i : ℕ) × (i < length points) × IsOther fixes i × (at points i ≡ x))
      → (ns : List ℕ) → AllPairs (λ i j. i ≢ j) ns → All (Taken M) ns → length ns + length M ≤ length points
  grown [] differ from ns apart taken = omega (arith, at_most ns (length points) apart (All-weaker (Taken []) (λ i. i < length points) (λ i is. is.0) ns taken))
  grown (y ∷ M) differ from ns apart taken =
      let (i, within, other, is) = from y (contains_first y M) in
      let new : (k : ℕ) (d : ℕ) → k < length ns → get_or ns k d ≢ i = λ k d inside same. elim (taken k d inside).1 [
        | inl one ↦ other (subst (Contains fixes) same one)
        | inr none ↦ none y (contains_first y M) (ap (at points) same ∙ is)
      ] in
      let kept : (j : ℕ) → Taken (y ∷ M) j → Taken M j = λ j own. (
        own.0,
        elim own.1 [
          | inl one ↦ inl one
          | inr none ↦ inr (λ x has. none x (contains_later y M x has))
        ],
      ) in
      let first : Taken M i = (within, inr (λ x has same. behind y M differ x has (sym is ∙ same))) in
      let more : length (ns ++ i ∷ []) + length M ≤ length points =
      grown M (λ j k d less inside. differ (suc j) (suc k) d (omega (arith, less)) (omega (arith, inside)))
      (λ x has. from x (contains_later y M x has)) (ns ++ i ∷ []) (all_pairs_push (λ j k. j ≢ k) ns i apart new)
      (All-push (Taken M) ns i (All-weaker (Taken (y ∷ M)) (Taken M) kept ns taken) first) in
      omega (arith, more, length-append ns (i ∷ []))
    where
      behind : (y : Position) (M : List Position) → AllPairs (λ a b. a ≢ b) (y ∷ M) → (x : Position) → Contains M x → y ≢ x
      behind y M differ x (k, inside, is) same = differ 0 (suc k) x (omega arith) (omega (arith, inside)) (same ∙ sym is)

-- no more corners than fixes
pub few_corners : (points corners inner : List Position) (fixes : List ℕ) → IsPolygonWithout points [] corners → AreCornerFixes points corners fixes
    → IsPolygonWithout points fixes inner → length corners + length inner ≤ length points
few_corners points corners inner fixes outer stand rest =
    let apart : AllPairs (λ i j. i ≢ j) fixes = λ j k d less inside same.
    fixes_apart points corners inner fixes outer stand rest j k (omega (arith, less, inside)) inside (λ one. omega (arith, one, less))
    (get_or_default fixes j 0 d (omega (arith, less, inside)) ∙ same ∙ get_or_default fixes k d 0 inside) in
    let taken : All (Taken points fixes inner) fixes = All-from_get_or (Taken points fixes inner) fixes 0
    (λ k inside. (stand.within k inside, inl (Contains-get_or fixes k 0 inside))) in
    omega (arith, stand.same_length, grown points fixes inner rest.polygon.distinct rest.members fixes apart taken)
