-- Names of files, name by name.
use Rattle.std.proofs.Common.{◌≡◌, ℕ, suc, ◌+◌, true, false, List, [], ◌∷◌, ◌++◌, length, take, drop, Some, None, refl}
use Rattle.std.specs.List.{position_from}
use Rattle.std.specs.Str.{bytes_eq}
use Rattle.split_names.specs.Names.{folded, is_among, named, numbered, numbered_from, same_after, with_number}

-- ---- numbers
-- the number tells the name from all that are taken
pub number_found : (count left number : ℕ) (taken : List (List ℕ)) (name : List ℕ) → count ≡ suc left → is_among taken (with_number name number) ≡ false
    → numbered_from count number taken name ≡ with_number name number
unfolding numbered_from
number_found count left number taken name more free = rw (more, free) refl

-- or the next one is tried
pub number_later : (count left number : ℕ) (taken : List (List ℕ)) (name : List ℕ) → count ≡ suc left → is_among taken (with_number name number) ≡ true
    → numbered_from count number taken name ≡ numbered_from left (number + 1) taken name
unfolding numbered_from
number_later count left number taken name more used = rw (more, used) refl

-- and the last is taken as it is
pub number_last : (count number : ℕ) (taken : List (List ℕ)) (name : List ℕ) → count ≡ 0 → numbered_from count number taken name ≡ with_number name number
unfolding numbered_from
number_last count number taken name none = rw none refl

-- ---- the same name twice
pub same_found : (before : List (List ℕ)) (name : List ℕ) (names : List (List ℕ)) (first : ℕ) → position_from (bytes_eq name) 0 before ≡ Some first
    → same_after before (name ∷ names) ≡ Some (first, length before)
unfolding same_after
same_found before name names first is = rw is refl

pub same_later : (before : List (List ℕ)) (name : List ℕ) (names : List (List ℕ)) → position_from (bytes_eq name) 0 before ≡ None
    → same_after before (name ∷ names) ≡ same_after (before ++ name ∷ []) names
unfolding same_after
same_later before name names none = rw none refl

pub same_none : (before : List (List ℕ)) → same_after before [] ≡ None
unfolding same_after
same_none before = refl

-- ---- names one by one, where `name` is the one at place i, and `key` what it folds to
module _ (names keys taken : List (List ℕ)) (i : ℕ) (name key : List ℕ) where
  -- the name stays
  pub stays : drop i names ≡ name ∷ drop (i + 1) names → take (i + 1) keys ≡ take i keys ++ key ∷ [] → key ≡ folded name → is_among (take i keys) name ≡ false
      → named (take i keys) taken (drop i names) ≡ name ∷ named (take (i + 1) keys) taken (drop (i + 1) names)
  unfolding named
  stays here keyed folds first = rw (here, keyed, first, folds) refl

  -- or has a number
  pub is_numbered : drop i names ≡ name ∷ drop (i + 1) names → take (i + 1) keys ≡ take i keys ++ key ∷ [] → key ≡ folded name
      → is_among (take i keys) name ≡ true
      → named (take i keys) taken (drop i names)
      ≡ numbered taken name ∷ named (take (i + 1) keys) (taken ++ folded (numbered taken name) ∷ []) (drop (i + 1) names)
  unfolding named
  is_numbered here keyed folds later = rw (here, keyed, later, folds) refl

pub named_none : (before taken : List (List ℕ)) → named before taken [] ≡ []
unfolding named
named_none before taken = refl
