-- In a list that is cut, the entries before which fewer than k come are the first k.
use Rattle.std.proofs.Common.{◌≡◌, ℕ, zero, suc, ◌+◌, ◌<◌, ◌≤◌, Bool, true, false, cond, eqb, nat_lt, List, [], ◌∷◌, ◌++◌, length, get_or, set, map, take, drop}
use Rattle.std.proofs.Common.{filter, refl, sym, ap, ap₂, subst, ◌∙◌, arith}
use Rattle.std.specs.Prelude.{count_by}
use Rattle.std.specs.List.{All, AllByRecursion, IsDistinct, swap}
use Rattle.std.specs.List.Sorted.{IsPermutation}
use Rattle.std.proofs.lemmas.Bool.Decides.{nat_tests}
use Rattle.std.proofs.lemmas.List.{append-nil, length-drop, length-take, take-append-drop}
use Rattle.std.proofs.lemmas.List.Elements.{All-from_recursion, filter-append, recursion_from_All}
use Rattle.std.proofs.lemmas.List.Sorted.{sum_by-IsPermutation, IsPermutation-refl, IsPermutation-trans, IsPermutation-cons, IsPermutation-append_left}
use Rattle.std.proofs.lemmas.List.Sorted.{IsPermutation-append_comm, IsPermutation-keeps}
use Rattle.std.proofs.lemmas.List.Sums.{count_by-le-length, sum_by-append, sum_by-cons}
use Rattle.std.proofs.lemmas.Map.Keys.{IsDistinct-IsPermutation}
use Rattle.range_stats.specs.Percent.{comes_before}

-- a distance and an index
abbrev pub Entry : Type 0
Entry = ℕ × ℕ

-- ---- the order
before_itself : (a : Entry) → comes_before a a ≡ false
before_itself a = grind (arith, nat_tests)

-- whether two entries have the same index
abbrev pub same_index : Entry → Entry → Bool
same_index a b = eqb a.1 b.1

before_other : (a b : Entry) → comes_before b a ≡ false → same_index a b ≡ false → comes_before a b ≡ true
before_other a b h k = grind (arith, nat_tests)

-- ---- counts and filters
at_most_one : (b : Bool) → cond b 1 0 ≤ 1
at_most_one true = omega arith
at_most_one false = omega arith

module _ {A : Type 0} (p : A → Bool) where
  count_more : (x : A) (xs : List A) (b : Bool) → p x ≡ b → count_by p (x ∷ xs) ≡ cond b 1 0 + count_by p xs
  count_more x xs b is = sum_by-cons (λ y. cond (p y) 1 0) x xs ∙ ap (λ c. cond c 1 0 + count_by p xs) is

  none_counted : (xs : List A) → AllByRecursion (λ x. p x ≡ false) xs → count_by p xs ≡ 0
  none_counted [] h = refl
  none_counted (x ∷ xs) h = omega (arith, count_more x xs false h.0, none_counted xs h.1)

  all_counted : (xs : List A) → AllByRecursion (λ x. p x ≡ true) xs → count_by p xs ≡ length xs
  all_counted [] h = refl
  all_counted (x ∷ xs) h = omega (arith, count_more x xs true h.0, all_counted xs h.1)

  one_missed : (xs : List A) (i : ℕ) (d : A) → i < length xs → p (get_or xs i d) ≡ false → count_by p xs < length xs
  one_missed [] i d within fails = absurd (omega (arith, within))
  one_missed (x ∷ xs) zero d within fails = omega (arith, count_more x xs false fails, count_by-le-length p xs)
  one_missed (x ∷ xs) (suc i) d within fails = omega (arith, count_more x xs (p x) refl, at_most_one (p x), one_missed xs i d (omega (arith, within)) fails)

  all_pass : (xs : List A) → AllByRecursion (λ x. p x ≡ true) xs → filter p xs ≡ xs
  all_pass [] h = refl
  all_pass (x ∷ xs) h = ap (λ b. cond b (x ∷ filter p xs) (filter p xs)) h.0 ∙ ap (λ l. x ∷ l) (all_pass xs h.1)

  none_passes : (xs : List A) → AllByRecursion (λ x. p x ≡ false) xs → filter p xs ≡ []
  none_passes [] h = refl
  none_passes (x ∷ xs) h = ap (λ b. cond b (x ∷ filter p xs) (filter p xs)) h.0 ∙ none_passes xs h.1

-- to filter what f makes is to make it of what passes the test
pub filter_map : {A B : Type 0} (p : B → Bool) (f : A → B) (xs : List A) → filter p (map f xs) ≡ map f (filter (λ a. p (f a)) xs)
filter_map p f [] = refl
filter_map p f (x ∷ xs) = ap (λ l. cond (p (f x)) (f x ∷ l) l) (filter_map p f xs) ∙ kept (p (f x))
  where
    kept : (b : Bool) → cond b (f x ∷ map f (filter (λ a. p (f a)) xs)) (map f (filter (λ a. p (f a)) xs)) ≡ map f
        (cond b (x ∷ filter (λ a. p (f a)) xs) (filter (λ a. p (f a)) xs))
    kept true = refl
    kept false = refl

-- ---- the same entries in another order
module _ {A : Type 0} (p : A → Bool) where
  abbrev Kept : List A → List A → Type 0
  Kept xs ys = IsPermutation (filter p xs) (filter p ys)

  kept_under : (x : A) (xs ys : List A) → Kept xs ys → Kept (x ∷ xs) (x ∷ ys)
  kept_under x xs ys h = elim (p x) as (λ b. IsPermutation (cond b (x ∷ filter p xs) (filter p xs))
      (cond b (x ∷ filter p ys) (filter p ys))) [ true ↦ IsPermutation-cons x _ _ h | false ↦ h ]

  kept_turned : (x y : A) (xs : List A) → Kept (x ∷ y ∷ xs) (y ∷ x ∷ xs)
  kept_turned x y xs = turned (p x) (p y)
    where
      turned : (b c : Bool) → IsPermutation (cond b (x ∷ cond c (y ∷ filter p xs) (filter p xs)) (cond c (y ∷ filter p xs) (filter p xs)))
          (cond c (y ∷ cond b (x ∷ filter p xs) (filter p xs)) (cond b (x ∷ filter p xs) (filter p xs)))
      turned true true = IsPermutation-append_left (filter p xs) _ _ (IsPermutation-append_comm (x ∷ []) (y ∷ []))
      turned true false = IsPermutation-refl (x ∷ filter p xs)
      turned false true = IsPermutation-refl (y ∷ filter p xs)
      turned false false = IsPermutation-refl (filter p xs)

  kept_to_head : (l : List A) (j : ℕ) (x d : A) → j < length l → Kept (x ∷ l) (get_or l j d ∷ set l j x)
  kept_to_head [] j x d h = absurd (omega arith)
  kept_to_head (y ∷ l) zero x d h = kept_turned x y l
  kept_to_head (y ∷ l) (suc j) x d h =
      IsPermutation-trans _ _ _ (kept_turned x y l) (IsPermutation-trans _ _ _
      (kept_under y (x ∷ l) (get_or l j d ∷ set l j x) (kept_to_head l j x d (omega arith))) (kept_turned y (get_or l j d) (set l j x)))

  kept_exchanged : (l : List A) (i j : ℕ) (d : A) → i < length l → j < length l → Kept l (set (set l i (get_or l j d)) j (get_or l i d))
  kept_exchanged [] i j d h k = absurd (omega arith)
  kept_exchanged (x ∷ l) zero zero d h k = IsPermutation-refl (filter p (x ∷ l))
  kept_exchanged (x ∷ l) zero (suc j) d h k = kept_to_head l j x d (omega arith)
  kept_exchanged (x ∷ l) (suc i) zero d h k = kept_to_head l i x d (omega arith)
  kept_exchanged (x ∷ l) (suc i) (suc j) d h k = kept_under x l (set (set l i (get_or l j d)) j (get_or l i d))
      (kept_exchanged l i j d (omega arith) (omega arith))

  kept_swapped : (l : List A) (i j : ℕ) → i < length l → j < length l → Kept l (swap l i j)
  kept_swapped [] i j h k = absurd (omega arith)
  kept_swapped (x ∷ l) i j h k = kept_exchanged (x ∷ l) i j x h k

  IsPermutation-filter : (xs ys : List A) → IsPermutation xs ys → Kept xs ys
  IsPermutation-filter xs = IsPermutation-keeps xs (Kept xs) (IsPermutation-refl (filter p xs))
      (λ l i j h k so_far. IsPermutation-trans _ _ _ so_far (kept_swapped l i j h k))

-- ---- a list in two parts, of which no entry of the second comes before one of the first
-- how many come before an entry
abbrev pub rank_in : List Entry → Entry → ℕ
rank_in all a = count_by (λ b. comes_before b a) all

-- no entry of `last` comes before one of `first`
abbrev pub IsApart : List Entry → List Entry → Type 0
IsApart first last = All (λ a. All (λ b. comes_before b a ≡ false) last) first

holds_after : {A : Type 0} (P : A → Type 0) (xs ys : List A) → AllByRecursion P (xs ++ ys) → AllByRecursion P ys
holds_after P [] ys h = h
holds_after P (x ∷ xs) ys h = holds_after P xs ys h.1

indices_apart : (first last : List Entry) → IsDistinct same_index (first ++ last) → All (λ a. All (λ b. same_index a b ≡ false) last) first
unfolding IsDistinct
indices_apart [] last apart i d within = absurd (omega (arith, within))
indices_apart (a ∷ first) last apart zero d within = All-from_recursion (λ b. same_index a b ≡ false) last
    (holds_after (λ b. same_index a b ≡ false) first last apart.0)
indices_apart (a ∷ first) last apart (suc i) d within = indices_apart first last apart.1 i d (omega (arith, within))

module _ (first last : List Entry) (k : ℕ) (apart : IsApart first last) where
  rank_split : (a : Entry) → rank_in (first ++ last) a ≡ rank_in first a + rank_in last a
  rank_split a = sum_by-append (λ b. cond (comes_before b a) 1 0) first last

  is_less : (n : ℕ) → n < k → nat_lt n k ≡ true
  is_less n h = grind (arith, nat_tests)

  is_no_less : (n : ℕ) → k ≤ n → nat_lt n k ≡ false
  is_no_less n h = grind (arith, nat_tests)

  first_rank_low : length first ≤ k → All (λ a. nat_lt (rank_in (first ++ last) a) k ≡ true) first
  first_rank_low few i d within =
      let a = get_or first i d in
      let after : rank_in last a ≡ 0 = none_counted (λ b. comes_before b a) last (recursion_from_All (λ b. comes_before b a ≡ false) last (apart i d within)) in
      let before : rank_in first a < length first = one_missed (λ b. comes_before b a) first i d within (before_itself a) in
      is_less (rank_in (first ++ last) a) (omega (arith, rank_split a, after, before))

  last_rank_high : (0 < length last → k ≤ length first) → IsDistinct same_index (first ++ last) → All (λ b. nat_lt (rank_in (first ++ last) b) k ≡ false) last
  last_rank_high many distinct j e inside =
      let b = get_or last j e in
      let before : rank_in first b ≡ length first =
      all_counted (λ a. comes_before a b) first (recursion_from_All (λ a. comes_before a b ≡ true) first
      (λ i d within. before_other (get_or first i d) b (apart i d within j e inside) (indices_apart first last distinct i d within j e inside))) in
      is_no_less (rank_in (first ++ last) b) (omega (arith, rank_split b, before, many (omega (arith, inside))))

  first_pass : length first ≤ k → (0 < length last → k ≤ length first) → IsDistinct same_index (first ++ last)
      → filter (λ a. nat_lt (rank_in (first ++ last) a) k) (first ++ last) ≡ first
  first_pass few many distinct =
      let test = λ (a : Entry). nat_lt (rank_in (first ++ last) a) k in
      filter-append test first last
      ∙ ap₂ (λ xs ys. xs ++ ys) (all_pass test first (recursion_from_All (λ a. test a ≡ true) first (first_rank_low few)))
      (none_passes test last (recursion_from_All (λ b. test b ≡ false) last (last_rank_high many distinct)))
      ∙ append-nil first

-- the entries before which fewer than k of all come are the first k of those that are cut there
pub nearest_are_first : (all cut : List Entry) (k : ℕ) → IsPermutation all cut → IsApart (take k cut) (drop k cut) → IsDistinct same_index all
    → IsPermutation (filter (λ a. nat_lt (rank_in all a) k) all) (take k cut)
nearest_are_first all cut k moved apart distinct =
    let test = λ (a : Entry). nat_lt (rank_in all a) k in
    let whole = take-append-drop k cut in
    let differ = subst (IsDistinct same_index) (sym whole) (IsDistinct-IsPermutation same_index (λ x y. grind (arith, nat_tests)) all cut moved distinct) in
    let passes = first_pass (take k cut) (drop k cut) k apart (omega (arith, length-take k cut))
    (λ some. omega (arith, length-take k cut, length-drop k cut, some)) differ in
    let same_rank = λ (a : Entry). ap (λ n. nat_lt n k) (sym (sum_by-IsPermutation (λ b. cond (comes_before b a) 1 0) all cut moved)) in
    let first : filter test cut ≡ take k cut = (λ i. filter (λ a. same_rank a i) cut)
    ∙ subst (λ (l : List Entry). filter (λ a. nat_lt (rank_in l a) k) l ≡ take k cut) whole passes in
    subst (IsPermutation (filter test all)) first (IsPermutation-filter test all cut moved)
