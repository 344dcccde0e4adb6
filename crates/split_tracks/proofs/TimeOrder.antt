-- Entries in the order of time: a stable sort by the time gives them.
use Rattle.std.proofs.Common.{◌≡◌, ℕ, zero, suc, ◌+◌, ◌<◌, ◌≤◌, Bool, true, false, cond, List, [], ◌∷◌, length, get_or, filter, nat_cmp, is_lt, nat_lt, refl, sym, ap, subst, ◌∙◌, arith, inl, inr, suc-le-suc, zero-le}
use Rattle.std.proofs.lemmas.Bool.{cond-true, cond-false, cases_Bool}
use Rattle.std.proofs.lemmas.Bool.Decides.{nat_tests}
use Rattle.std.proofs.lemmas.List.Sorted.{IsPermutation-cons, IsPermutation-middle, IsPermutation-refl, IsPermutation-sym, IsPermutation-trans}
use Rattle.std.specs.List.Sorted.{ties, IsNonDecreasingBy, IsPermutation, IsSortedBy, IsStableBy, IsStableByKey}
use Rattle.split_tracks.specs.declared.fate.Entry.{Entry}
use Rattle.split_tracks.specs.Tracks.{in_order, put_in, time_of}

-- whether two entries are of one time
abbrev same_time : Entry → Entry → Bool
same_time = ties (λ x y. is_lt (nat_cmp (time_of x) (time_of y)))

ties_at : (m n : ℕ) → (ties (λ x y. is_lt (nat_cmp x y)) m n ≡ true → m ≡ n) × (m ≡ n → ties (λ x y. is_lt (nat_cmp x y)) m n ≡ true)
ties_at m n = (λ h. grind (arith, nat_tests), λ h. grind (arith, nat_tests))

same_time-true : (x y : Entry) → same_time x y ≡ true → time_of x ≡ time_of y
same_time-true x y = (ties_at (time_of x) (time_of y)).0

same_time_from : (x y : Entry) → time_of x ≡ time_of y → same_time x y ≡ true
same_time_from x y = (ties_at (time_of x) (time_of y)).1

less-true : (m n : ℕ) → nat_lt m n ≡ true → m < n
less-true m n h = grind (arith, nat_tests)

less-false : (m n : ℕ) → nat_lt m n ≡ false → n ≤ m
less-false m n h = grind (arith, nat_tests)

filter-kept : (p : Entry → Bool) (y : Entry) (ys : List Entry) → p y ≡ true → filter p (y ∷ ys) ≡ y ∷ filter p ys
filter-kept p y ys h = cond-true _ _ _ h

filter-dropped : (p : Entry → Bool) (y : Entry) (ys : List Entry) → p y ≡ false → filter p (y ∷ ys) ≡ filter p ys
filter-dropped p y ys h = cond-false _ _ _ h

put_in-past : (e f : Entry) (fs : List Entry) → nat_lt (time_of f) (time_of e) ≡ true → put_in e (f ∷ fs) ≡ f ∷ put_in e fs
unfolding put_in
put_in-past e f fs h = cond-true _ _ _ h

put_in-stays : (e f : Entry) (fs : List Entry) → nat_lt (time_of f) (time_of e) ≡ false → put_in e (f ∷ fs) ≡ e ∷ f ∷ fs
unfolding put_in
put_in-stays e f fs h = cond-false _ _ _ h

put_in-nil : (e : Entry) → put_in e [] ≡ e ∷ []
unfolding put_in
put_in-nil e = refl

in_order-nil : in_order [] ≡ []
unfolding in_order
in_order-nil = refl

in_order-cons : (e : Entry) (es : List Entry) → in_order (e ∷ es) ≡ put_in e (in_order es)
unfolding in_order
in_order-cons e es = refl

-- entries of one time stand in the order that they had
filter-put_in : (x e : Entry) (fs : List Entry) → filter (same_time x) (put_in e fs) ≡ filter (same_time x) (e ∷ fs)
filter-put_in x e [] = ap (filter (same_time x)) (put_in-nil e)
filter-put_in x e (f ∷ fs) =
    let p = same_time x in
    elim (cases_Bool (nat_lt (time_of f) (time_of e))) [
      | inr stays ↦ ap (filter p) (put_in-stays e f fs stays)
      | inl past ↦
          let earlier = less-true _ _ past in
          ap (filter p) (put_in-past e f fs past)
          ∙ elim (cases_Bool (p f)) [
            | inr without ↦
                filter-dropped p f (put_in e fs) without ∙ filter-put_in x e fs
                ∙ ap (λ l. cond (p e) (e ∷ l) l) (sym (filter-dropped p f fs without))
            | inl with ↦
                elim (cases_Bool (p e)) [
                  | inl both ↦ absurd (omega (arith, earlier, same_time-true x e both, same_time-true x f with))
                  | inr only ↦
                      filter-kept p f (put_in e fs) with ∙ ap (λ l. f ∷ l) (filter-put_in x e fs ∙ filter-dropped p e fs only)
                      ∙ sym (filter-dropped p e (f ∷ fs) only ∙ filter-kept p f fs with)
                ]
          ]
    ]

pub filter-in_order : (x : Entry) (es : List Entry) → filter (same_time x) (in_order es) ≡ filter (same_time x) es
filter-in_order x [] = ap (filter (same_time x)) in_order-nil
filter-in_order x (e ∷ es) =
    ap (filter (same_time x)) (in_order-cons e es) ∙ filter-put_in x e (in_order es)
    ∙ ap (λ l. cond (same_time x e) (e ∷ l) l) (filter-in_order x es)

-- all are of this time or later
abbrev AreAtLeast : ℕ → List Entry → Type 0
AreAtLeast n [] = Unit {0}
AreAtLeast n (y ∷ ys) = (n ≤ time_of y) × AreAtLeast n ys

-- each is of the time of the one before it, or later
abbrev Rises : List Entry → Type 0
Rises [] = Unit {0}
Rises (y ∷ ys) = AreAtLeast (time_of y) ys × Rises ys

AreAtLeast-le : (n m : ℕ) (ys : List Entry) → n ≤ m → AreAtLeast m ys → AreAtLeast n ys
AreAtLeast-le n m [] le h = tt
AreAtLeast-le n m (y ∷ ys) le h = let first = h.0 in (omega arith, AreAtLeast-le n m ys le h.1)

AreAtLeast-at : (n : ℕ) (ys : List Entry) → ((j : ℕ) (d : Entry) → j < length ys → n ≤ time_of (get_or ys j d)) → AreAtLeast n ys
AreAtLeast-at n [] h = tt
AreAtLeast-at n (y ∷ ys) h = (h zero y (suc-le-suc zero-le), AreAtLeast-at n ys (λ j d lt. h (suc j) d (suc-le-suc lt)))

Rises-from_sort : (ys : List Entry) → IsNonDecreasingBy time_of ys → Rises ys
Rises-from_sort [] h = tt
Rises-from_sort (y ∷ ys) h = (
  AreAtLeast-at (time_of y) ys (λ j d lt. h zero (suc j) d zero-le (suc-le-suc lt)),
  Rises-from_sort ys (λ i j d le lt. h (suc i) (suc j) d (suc-le-suc le) (suc-le-suc lt)),
)

AreAtLeast-put_in : (n : ℕ) (e : Entry) (fs : List Entry) → n ≤ time_of e → AreAtLeast n fs → AreAtLeast n (put_in e fs)
unfolding put_in
AreAtLeast-put_in n e [] first rest = (first, tt)
AreAtLeast-put_in n e (f ∷ fs) first rest = elim (cases_Bool (nat_lt (time_of f) (time_of e))) [
  | inl past ↦ rw past (rest.0, AreAtLeast-put_in n e fs first rest.1)
  | inr stays ↦ rw stays (first, rest)
]

Rises-put_in : (e : Entry) (fs : List Entry) → Rises fs → Rises (put_in e fs)
unfolding put_in
Rises-put_in e [] r = (tt, tt)
Rises-put_in e (f ∷ fs) r = elim (cases_Bool (nat_lt (time_of f) (time_of e))) [
  | inl past ↦
      let le = less-true _ _ past in
      rw past (AreAtLeast-put_in (time_of f) e fs (omega (arith, le)) r.0, Rises-put_in e fs r.1)
  | inr stays ↦
      let le = less-false _ _ stays in
      rw stays ((le, AreAtLeast-le (time_of e) (time_of f) fs le r.0), r)
]

pub Rises-in_order : (es : List Entry) → Rises (in_order es)
unfolding in_order
Rises-in_order [] = tt
Rises-in_order (e ∷ es) = Rises-put_in e (in_order es) (Rises-in_order es)

-- an entry of the time of x is among them
AreAtLeast-found : (n : ℕ) (x : Entry) (ys : List Entry) (w : Entry) (ws : List Entry) → AreAtLeast n ys → filter (same_time x) ys ≡ w ∷ ws → n ≤ time_of x
AreAtLeast-found n x [] w ws h e = cc
AreAtLeast-found n x (y ∷ ys) w ws h e =
    elim (cases_Bool (same_time x y)) [
      | inl with ↦ omega (arith, h.0, same_time-true x y with)
      | inr without ↦ AreAtLeast-found n x ys w ws h.1 (sym (filter-dropped (same_time x) y ys without) ∙ e)
    ]

-- two lists in the order of time that have the same entries of each time are one list
same_from_times : (ys zs : List Entry) → Rises ys → Rises zs → ((x : Entry) → filter (same_time x) ys ≡ filter (same_time x) zs) → ys ≡ zs
same_from_times [] [] left right same = refl
same_from_times [] (z ∷ zs) left right same =
    let clash = same z ∙ filter-kept (same_time z) z zs (same_time_from z z refl) in cc
same_from_times (y ∷ ys) [] left right same =
    let clash = sym (same y) ∙ filter-kept (same_time y) y ys (same_time_from y y refl) in cc
same_from_times (y ∷ ys) (z ∷ zs) left right same =
    let at_y = filter-kept (same_time y) y ys (same_time_from y y refl) in
    let at_z = filter-kept (same_time z) z zs (same_time_from z z refl) in
    let up : time_of z ≤ time_of y = AreAtLeast-found (time_of z) y (z ∷ zs) y _ (omega arith, right.0) (sym (same y) ∙ at_y) in
    let down : time_of y ≤ time_of z = AreAtLeast-found (time_of y) z (y ∷ ys) z _ (omega arith, left.0) (same z ∙ at_z) in
    let heads = sym at_y ∙ same y ∙ filter-kept (same_time y) z zs (same_time_from y z (omega (arith, up, down))) in
    let head : y ≡ z = cc in
    let tails : (x : Entry) → filter (same_time x) ys ≡ filter (same_time x) zs =
    λ x. elim (cases_Bool (same_time x y)) [
      | inl with ↦
          let both = sym (filter-kept (same_time x) y ys with) ∙ same x ∙ filter-kept (same_time x) z zs (ap (same_time x) (sym head) ∙ with) in cc
      | inr without ↦
          sym (filter-dropped (same_time x) y ys without) ∙ same x ∙ filter-dropped (same_time x) z zs (ap (same_time x) (sym head) ∙ without)
    ] in
    ap (λ w. w ∷ ys) head ∙ ap (λ l. z ∷ l) (same_from_times ys zs left.1 right.1 tails)

pub in_order-from_sort : (xs ys : List Entry) → IsNonDecreasingBy time_of ys → IsStableByKey time_of nat_cmp xs ys → ys ≡ in_order xs
in_order-from_sort xs ys sorted stable =
    same_from_times ys (in_order xs) (Rises-from_sort ys sorted) (Rises-in_order xs) (λ x. stable x ∙ sym (filter-in_order x xs))

-- ---- laws
permuted-put_in : (e : Entry) (fs : List Entry) → IsPermutation (e ∷ fs) (put_in e fs)
unfolding put_in
permuted-put_in e [] = IsPermutation-refl (e ∷ [])
permuted-put_in e (f ∷ fs) = elim (cases_Bool (nat_lt (time_of f) (time_of e))) [
  | inl past ↦
      rw past (IsPermutation-trans (e ∷ f ∷ fs) (f ∷ e ∷ fs) (f ∷ put_in e fs) (IsPermutation-sym (f ∷ e ∷ fs) (e ∷ f ∷ fs) (IsPermutation-middle (f ∷ []) e fs))
      (IsPermutation-cons f (e ∷ fs) (put_in e fs) (permuted-put_in e fs)))
  | inr stays ↦ rw stays (IsPermutation-refl (e ∷ f ∷ fs))
]

pub permuted-in_order : (es : List Entry) → IsPermutation es (in_order es)
unfolding in_order
permuted-in_order [] = IsPermutation-refl []
permuted-in_order (e ∷ es) =
    IsPermutation-trans (e ∷ es) (e ∷ in_order es) (put_in e (in_order es)) (IsPermutation-cons e es (in_order es) (permuted-in_order es)) (permuted-put_in e (in_order es))

-- a list that rises is sorted
first_at_most : (n : ℕ) (ys : List Entry) (k : ℕ) (d : Entry) → AreAtLeast n ys → k < length ys → n ≤ time_of (get_or ys k d)
first_at_most n [] k d least below = absurd (omega (arith, below))
first_at_most n (y ∷ ys) zero d least below = least.0
first_at_most n (y ∷ ys) (suc k) d least below = first_at_most n ys k d least.1 (omega (arith, below))

not_less : (m n : ℕ) → n ≤ m → nat_lt m n ≡ false
not_less m n h = grind (arith, nat_tests)

sorted_from_Rises : (ys : List Entry) → Rises ys → (k j : ℕ) (d : Entry) → j ≡ suc k → j < length ys → nat_lt (time_of (get_or ys j d)) (time_of (get_or ys k d)) ≡ false
sorted_from_Rises [] rises k j d next below = absurd (omega (arith, below))
sorted_from_Rises (y ∷ ys) rises k zero d next below = absurd (omega (arith, next))
sorted_from_Rises (y ∷ ys) rises zero (suc j) d next below = not_less _ _ (first_at_most (time_of y) ys j d rises.0 (omega (arith, below)))
sorted_from_Rises (y ∷ ys) rises (suc k) (suc j) d next below = sorted_from_Rises ys rises.1 k j d (omega (arith, next)) (omega (arith, below))

pub sorted-in_order : (es : List Entry) → IsSortedBy (λ a b. nat_lt (time_of a) (time_of b)) (in_order es)
sorted-in_order es k d from below = sorted_from_Rises (in_order es) (Rises-in_order es) k (k + 1) d (omega arith) below

less_by_order : (m n : ℕ) → is_lt (nat_cmp m n) ≡ nat_lt m n
less_by_order m n = grind (arith, nat_tests)

pub stable-in_order : (es : List Entry) → IsStableBy (λ a b. nat_lt (time_of a) (time_of b)) es (in_order es)
stable-in_order es = subst (λ lt. IsStableBy lt es (in_order es)) (λ i a b. less_by_order (time_of a) (time_of b) i) (λ x. filter-in_order x es)
