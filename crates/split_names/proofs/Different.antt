-- No two names of files fold alike.
use Rattle.std.proofs.Common.{◌≡◌, ◌≢◌, ℕ, zero, suc, ◌+◌, ◌<◌, ◌≤◌, ◌^◌, ◌==◌, true, false, ◌⊎◌, inl, inr, List, [], ◌∷◌, ◌++◌, All, AllPairs, length, map, get_or, refl, sym, ap, ◌∙◌, arith, length-append}
use Rattle.std.proofs.lemmas.Bool.{cases_Bool, eqb-true}
use Rattle.std.proofs.lemmas.List.Elements.{All-cons, All-nil}
use Rattle.std.proofs.lemmas.List.Folds.{list_any-append}
use Rattle.std.proofs.lemmas.List.FromFn.{length-map-range_with_len}
use Rattle.std.proofs.lemmas.List.Kept.{AllPairs-cons}
use Rattle.std.proofs.lemmas.Map.Made.{length-le_from_is_member}
use Rattle.std.proofs.lemmas.Slice.Eq.{bytes_eq-Decides}
use Rattle.std.specs.Cmp.{IsEquivalence}
use Rattle.std.specs.List.{AllByRecursion, IsDistinct, list_any, range_with_len}
use Rattle.std.specs.Set.{is_member}
use Rattle.std.specs.Str.{bytes_eq}
use Rattle.range_lemmas.proofs.Indices.{map_length}
use Rattle.split_names.specs.Names.{folded, is_among, named, numbered, numbered_from, with_number}
use Rattle.split_names.proofs.Keys.{number_told}

-- ---- names among others
bytes_same : (one other : List ℕ) → bytes_eq one other ≡ true → one ≡ other
bytes_same one other is = (bytes_eq-Decides one other).0 is

same_bytes : (name : List ℕ) → bytes_eq name name ≡ true
same_bytes name = (bytes_eq-Decides name name).1 refl

bytes_equivalence : IsEquivalence bytes_eq
bytes_equivalence = record {
  refl = same_bytes;
  symm = λ x y. elim (cases_Bool (bytes_eq x y)) [
    | inl is ↦ is ∙ sym (ap (bytes_eq y) (bytes_same x y is) ∙ same_bytes y)
    | inr is_not ↦ elim (cases_Bool (bytes_eq y x)) [
      | inl back ↦ absurd (cc (sym is_not ∙ (ap (bytes_eq x) (bytes_same y x back) ∙ same_bytes x)))
      | inr other ↦ is_not ∙ sym other
    ]
  ];
  congr = λ x y z is. ap (λ one. bytes_eq one z) (bytes_same x y is);
}

-- whether a name is among some depends on what it folds to alone
among_same : (others : List (List ℕ)) (one other : List ℕ) → folded one ≡ folded other → is_among others one ≡ is_among others other
among_same others one other same = ap (λ key. list_any (bytes_eq key) others) same

-- a name that is among some is among more
among_more : (others : List (List ℕ)) (key name : List ℕ) → is_among others name ≡ true → is_among (others ++ key ∷ []) name ≡ true
among_more others key name is = list_any-append (bytes_eq (folded name)) others (key ∷ []) ∙ rw is refl

-- and one that is not among more is not among fewer
among_fewer : (others : List (List ℕ)) (key name : List ℕ) → is_among (others ++ key ∷ []) name ≡ false → is_among others name ≡ false
among_fewer others key name is_not = elim (cases_Bool (is_among others name)) [
  | inl is ↦ absurd (cc (sym is_not ∙ among_more others key name is))
  | inr none ↦ none
]

-- a name is among some of which it is the last
among_last : (others : List (List ℕ)) (name : List ℕ) → is_among (others ++ folded name ∷ []) name ≡ true
among_last others name = list_any-append (bytes_eq (folded name)) others (folded name ∷ []) ∙ elim (cases_Bool (is_among others name)) [
  | inl is ↦ rw is refl
  | inr is_not ↦ rw (is_not, same_bytes (folded name)) refl
]

-- ---- numbers
-- what a name with each of so many numbers folds to
abbrev keys_of : List ℕ → ℕ → ℕ → List (List ℕ)
keys_of name number count = map (λ n. folded (with_number name n)) (range_with_len number count)

others_told : (name : List ℕ) (number from count : ℕ) → number < from → from + count ≤ 2 ^ 64
    → AllByRecursion (λ key. bytes_eq (folded (with_number name number)) key ≡ false) (keys_of name from count)
others_told name number from zero below small = tt
others_told name number from (suc count) below small = (
  elim (cases_Bool (bytes_eq (folded (with_number name number)) (folded (with_number name from)))) [
    | inl is ↦
        let same = number_told name number from (omega (arith, below, small)) (omega (arith, small)) (bytes_same _ _ is) in absurd (omega (arith, same, below))
    | inr is_not ↦ is_not
  ],
  others_told name number (from + 1) count (omega (arith, below)) (omega (arith, small)),
)

all_told : (name : List ℕ) (number count : ℕ) → number + count ≤ 2 ^ 64 → IsDistinct bytes_eq (keys_of name number count)
unfolding IsDistinct
all_told name number zero small = tt
all_told name number (suc count) small =
    (others_told name number (number + 1) count (omega arith) (omega (arith, small)), all_told name (number + 1) count (omega (arith, small)))

-- keys of which each is taken
all_taken : (taken : List (List ℕ)) (name : List ℕ) (number count : ℕ)
    → ((n : ℕ) → number ≤ n → n < number + count → is_among taken (with_number name n) ≡ true)
    → (key : List ℕ) → is_member bytes_eq (keys_of name number count) key ≡ true → is_member bytes_eq taken key ≡ true
all_taken taken name number zero each key is = cc
all_taken taken name number (suc count) each key is = elim (cases_Bool (bytes_eq key (folded (with_number name number)))) [
  | inl first ↦ ap (λ k. list_any (bytes_eq k) taken) (bytes_same _ _ first) ∙ each number (omega arith) (omega arith)
  | inr later ↦
      all_taken taken name (number + 1) count (λ n least most. each n (omega (arith, least)) (omega (arith, most))) key (rw later at is)
]

-- not all of one more number than are taken are taken
one_free : (taken : List (List ℕ)) (name : List ℕ) (number : ℕ) → number + suc (length taken) ≤ 2 ^ 64
    → ¬ ((n : ℕ) → number ≤ n → n < number + suc (length taken) → is_among taken (with_number name n) ≡ true)
one_free taken name number small each =
    let keys = keys_of name number (suc (length taken)) in
    let few = length-le_from_is_member bytes_equivalence keys taken (all_told name number (suc (length taken)) small)
    (all_taken taken name number (suc (length taken)) each)
    in
    omega (arith, few, length-map-range_with_len (λ n. folded (with_number name n)) number (suc (length taken)))

up_to : (taken : List (List ℕ)) (name : List ℕ) (number : ℕ) → ((n : ℕ) → 2 ≤ n → n < number → is_among taken (with_number name n) ≡ true)
    → is_among taken (with_number name number) ≡ true → (n : ℕ) → 2 ≤ n → n < number + 1 → is_among taken (with_number name n) ≡ true
up_to taken name number each used n least most = elim (cases_Bool (n == number)) [
  | inl is ↦ ap (λ k. is_among taken (with_number name k)) (eqb-true n number is) ∙ used
  | inr is_not ↦ let differ : n ≢ number = λ e. grind (arith, is_not, e) in each n least (omega (arith, most, differ))
]

-- so a name with its number is free
number_free : (taken : List (List ℕ)) (name : List ℕ) (left number : ℕ) → number + left ≡ length taken + 2 → length taken + 3 ≤ 2 ^ 64
    → ((n : ℕ) → 2 ≤ n → n < number → is_among taken (with_number name n) ≡ true) → is_among taken (numbered_from left number taken name) ≡ false
unfolding numbered_from
number_free taken name zero number all small each = elim (cases_Bool (is_among taken (with_number name number))) [
  | inl used ↦ absurd (one_free taken name 2 (omega (arith, small)) (λ n least most. up_to taken name number each used n least (omega (arith, most, all))))
  | inr free ↦ free
]
number_free taken name (suc left) number all small each = elim (cases_Bool (is_among taken (with_number name number))) [
  | inl used ↦ rw used (number_free taken name left (number + 1) (omega (arith, all)) small (up_to taken name number each used))
  | inr free ↦ rw free free
]

-- ---- all names
-- two names fold to something else each
abbrev Differ : List ℕ → List ℕ → Type 0
Differ one other = folded one ≢ folded other

-- each of some names is among these
abbrev AllAmong : List (List ℕ) → List (List ℕ) → Type 0
AllAmong all [] = Unit {0}
AllAmong all (name ∷ names) = (is_among all name ≡ true) × AllAmong all names

-- a name of a file is the first of all that fold alike, and none of those before it, or it folds as none that is taken
abbrev IsKept : List (List ℕ) → List (List ℕ) → List (List ℕ) → List ℕ → Type 0
IsKept all before taken own = ((is_among before own ≡ false) × (is_among all own ≡ true)) ⊎ (is_among taken own ≡ false)

-- names fold to something else each, and each is kept
abbrev AreApart : List (List ℕ) → List (List ℕ) → List (List ℕ) → List (List ℕ) → Type 0
AreApart all before taken own = AllPairs Differ own × All (IsKept all before taken) own

-- a name that stays stands before others
stays_apart : (all before taken : List (List ℕ)) (name : List ℕ) (others : List (List ℕ)) → is_among before name ≡ false → is_among all name ≡ true
    → is_among taken name ≡ true → AreApart all (before ++ folded name ∷ []) taken others → AreApart all before taken (name ∷ others)
stays_apart all before taken name others first there used apart = (
  AllPairs-cons Differ name others (λ k d below same. elim (apart.1 k d below) [
    | inl kept ↦ absurd (cc (sym kept.0 ∙ (sym (among_same (before ++ folded name ∷ []) name (get_or others k d) same) ∙ among_last before name)))
    | inr free ↦ absurd (cc (sym free ∙ (sym (among_same taken name (get_or others k d) same) ∙ used)))
  ]) apart.0,
  All-cons (IsKept all before taken) name others (inl (first, there)) (λ k d below. elim (apart.1 k d below) [
    | inl kept ↦ inl (among_fewer before (folded name) (get_or others k d) kept.0, kept.1)
    | inr free ↦ inr free
  ]),
)

-- so does one with a number
numbered_apart : (all before taken : List (List ℕ)) (name found : List ℕ) (others : List (List ℕ)) → is_among taken found ≡ false
    → ((one : List ℕ) → is_among all one ≡ true → is_among taken one ≡ true)
    → AreApart all (before ++ folded name ∷ []) (taken ++ folded found ∷ []) others → AreApart all before taken (found ∷ others)
numbered_apart all before taken name found others free within apart = (
  AllPairs-cons Differ found others (λ k d below same. elim (apart.1 k d below) [
    | inl kept ↦ absurd (cc (sym free ∙ (among_same taken found (get_or others k d) same ∙ within (get_or others k d) kept.1)))
    | inr later ↦ absurd (cc (sym later ∙ (sym (among_same (taken ++ folded found ∷ []) found (get_or others k d) same) ∙ among_last taken found)))
  ]) apart.0,
  All-cons (IsKept all before taken) found others (inr free) (λ k d below. elim (apart.1 k d below) [
    | inl kept ↦ inl (among_fewer before (folded name) (get_or others k d) kept.0, kept.1)
    | inr later ↦ inr (among_fewer taken (folded found) (get_or others k d) later)
  ]),
)

named_apart : (all before taken names : List (List ℕ)) → ((one : List ℕ) → is_among all one ≡ true → is_among taken one ≡ true) → AllAmong all names
    → length taken + length names + 3 ≤ 2 ^ 64 → AreApart all before taken (named before taken names)
unfolding named
named_apart all before taken [] within among small = (λ i j d below there. absurd (omega (arith, there)), All-nil (IsKept all before taken))
named_apart all before taken (name ∷ names) within among small = elim (cases_Bool (is_among before name)) [
  | inl later ↦
      let found = numbered taken name in
      let free : is_among taken found ≡ false =
      number_free taken name (length taken) 2 (omega arith) (omega (arith, small)) (λ n least most. absurd (omega (arith, least, most)))
      in
      let long = length-append taken (folded found ∷ []) in
      rw later (numbered_apart all before taken name found (named (before ++ folded name ∷ []) (taken ++ folded found ∷ []) names) free within
      (named_apart all (before ++ folded name ∷ []) (taken ++ folded found ∷ []) names (λ one is. among_more taken (folded found) one (within one is)) among.1
      (omega (arith, small, long))))
  | inr first ↦
      rw first (stays_apart all before taken name (named (before ++ folded name ∷ []) taken names) first among.0 (within name among.0)
      (named_apart all (before ++ folded name ∷ []) taken names within among.1 (omega (arith, small))))
]

-- names are among all that they fold to
among_front : (all : List (List ℕ)) (key : List ℕ) (names : List (List ℕ)) → AllAmong all names → AllAmong (key ∷ all) names
among_front all key [] among = tt
among_front all key (name ∷ names) among = (
  elim (cases_Bool (bytes_eq (folded name) key)) [ inl is ↦ rw is refl | inr is_not ↦ rw is_not among.0 ],
  among_front all key names among.1,
)

all_among : (names : List (List ℕ)) → AllAmong (map folded names) names
all_among [] = tt
all_among (name ∷ names) = (rw (same_bytes (folded name)) refl, among_front (map folded names) (folded name) names (all_among names))

pub names_differ : (names : List (List ℕ)) → length names < 2 ^ 32 → AllPairs (λ one other. folded one ≢ folded other) (named [] (map folded names) names)
names_differ names small =
    let long = map_length folded names in
    (named_apart (map folded names) [] (map folded names) names (λ one is. is) (all_among names) (omega (arith, small, long))).0
