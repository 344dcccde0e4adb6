-- What holds of clean names, and of each with a number, holds of all names of files.
use Rattle.std.proofs.Common.{◌≡◌, ℕ, zero, suc, ◌+◌, ◌<◌, ◌^◌, List, [], ◌∷◌, ◌++◌, All, Option, Some, None, Ok, inl, inr, length, map, subst, arith, length-append}
use Rattle.std.proofs.lemmas.Bool.{cases_Bool}
use Rattle.std.proofs.lemmas.List.Elements.{All-cons, All-nil}
use Rattle.std.specs.List.{AllByRecursion}
use Rattle.range_lemmas.proofs.Indices.{map_length}
use Rattle.split_names.specs.Clean.{clean}
use Rattle.split_names.specs.Names.{file_names, folded, is_among, named, numbered, numbered_from, same_after, told_apart, with_number}

-- names of files are those of clean names, where no two are the same
pub told : (names : List (List ℕ)) (same : Option (ℕ × ℕ)) (own : List (List ℕ)) → told_apart names same ≡ Ok own → named [] (map folded names) names ≡ own
told names None own is = cc
told names (Some (first, second)) own is = absurd (cc is)

module _ (P : List ℕ → Type 0) (numbers : (name : List ℕ) (number : ℕ) → number < 2 ^ 64 → P name → P (with_number name number)) where
  number_has : (count number : ℕ) (taken : List (List ℕ)) (name : List ℕ) → number + count < 2 ^ 64 → P name → P (numbered_from count number taken name)
  unfolding numbered_from
  number_has zero number taken name small has = numbers name number (omega (arith, small)) has
  number_has (suc count) number taken name small has = elim (cases_Bool (is_among taken (with_number name number))) [
    | inl used ↦ rw used (number_has count (number + 1) taken name (omega (arith, small)) has)
    | inr free ↦ rw free (numbers name number (omega (arith, small)) has)
  ]

  pub each_has : (before taken names : List (List ℕ)) → AllByRecursion P names → length taken + length names + 3 < 2 ^ 64 → All P (named before taken names)
  unfolding named
  each_has before taken [] has small = All-nil P
  each_has before taken (name ∷ names) has small = elim (cases_Bool (is_among before name)) [
    | inl later ↦
        let found = numbered taken name in
        let long = length-append taken (folded found ∷ []) in
        rw later (All-cons P found (named (before ++ folded name ∷ []) (taken ++ folded found ∷ []) names)
        (number_has (length taken) 2 taken name (omega (arith, small)) has.0)
        (each_has (before ++ folded name ∷ []) (taken ++ folded found ∷ []) names has.1 (omega (arith, small, long))))
    | inr first ↦
        rw first (All-cons P name (named (before ++ folded name ∷ []) taken names) has.0
        (each_has (before ++ folded name ∷ []) taken names has.1 (omega (arith, small))))
  ]

cleaned_have : (Q P : List ℕ → Type 0) → ((name : List ℕ) → Q name → P (clean name)) → (names : List (List ℕ)) → All Q names → AllByRecursion P (map clean names)
cleaned_have Q P cleans [] all = tt
cleaned_have Q P cleans (name ∷ names) all =
    (cleans name (all 0 [] (omega arith)), cleaned_have Q P cleans names (λ k d below. all (suc k) d (omega (arith, below))))

-- all names of files have what clean names and those with a number have
pub file_names_have : (Q P : List ℕ → Type 0) → ((name : List ℕ) → Q name → P (clean name))
    → ((name : List ℕ) (number : ℕ) → number < 2 ^ 64 → P name → P (with_number name number))
    → (names own : List (List ℕ)) → length names < 2 ^ 32 → All Q names → file_names names ≡ Ok own → All P own
file_names_have Q P cleans numbers names own few all is =
    let cleaned = map clean names in
    let keys = map folded cleaned in
    subst (λ (l : List (List ℕ)). All P l) (told cleaned (same_after [] cleaned) own is)
    (each_has P numbers [] keys cleaned (cleaned_have Q P cleans names all) (omega (arith, few, map_length clean names, map_length folded cleaned)))
