-- Members of lists by their indices.
use Rattle.std.proofs.Common.{◌≡◌, ◌≢◌, refl, sym, ap, subst, ◌∙◌, ℕ, zero, suc, ◌+◌, ◌<◌, ◌≤◌, List, [], ◌∷◌, ◌++◌, length, take, drop, map, set, slice_get}
use Rattle.std.proofs.Common.{Some, option_map, All, ◌⊎◌, inl, inr, arith, get_or, length-append}
use Rattle.std.proofs.lemmas.List.{length-drop, length-take-le}
use Rattle.std.proofs.lemmas.List.FromFn.{length-map-range_with_len, get_or-map-range_with_len}
use Rattle.std.proofs.lemmas.Option.{get_or_from_slice_get, none-some, same_Some, slice_get-get_or, slice_get-map, slice_get_within}
use Rattle.std.specs.List.{range_with_len}
use Rattle.range_lemmas.specs.Pairs.{PairedFrom}

-- a member appended moves none of those before it
pub slice_get_before : {X : Type 0} (xs : List X) (y : X) (i : ℕ) → i < length xs → slice_get (xs ++ y ∷ []) i ≡ slice_get xs i
slice_get_before [] y i h = absurd (omega arith)
slice_get_before (x ∷ xs) y zero h = refl
slice_get_before (x ∷ xs) y (suc i) h = slice_get_before xs y i (omega arith)

-- a member appended stands at the index that was the length
pub slice_get_last : {X : Type 0} (xs : List X) (y : X) → slice_get (xs ++ y ∷ []) (length xs) ≡ Some y
slice_get_last [] y = refl
slice_get_last (x ∷ xs) y = slice_get_last xs y

-- what stands at an index of a list with y appended stood there before, or is y
pub before_or_last : {X : Type 0} (xs : List X) (x y : X) (i : ℕ) → slice_get (xs ++ y ∷ []) i ≡ Some x → (slice_get xs i ≡ Some x)
    ⊎ ((i ≡ length xs) × (y ≡ x))
before_or_last [] x y zero e = inr (refl, same_Some y x e)
before_or_last [] x y (suc i) e = absurd (none-some x e)
before_or_last (z ∷ xs) x y zero e = inl e
before_or_last (z ∷ xs) x y (suc i) e = elim (before_or_last xs x y i e) [ inl k ↦ inl k | inr l ↦ inr (ap suc l.0, l.1) ]

-- each index below the length has a member
pub there_is : {X : Type 0} (xs : List X) (index : ℕ) → index < length xs → (x : X) × (slice_get xs index ≡ Some x)
there_is [] index below = absurd (omega arith)
there_is (x ∷ xs) zero below = (x, refl)
there_is (x ∷ xs) (suc index) below = there_is xs index (omega arith)

-- what is true of all members is true of the one at an index
pub of_all : {X : Type 0} (P : X → Type 0) (xs : List X) (index : ℕ) (x : X) → All P xs → slice_get xs index ≡ Some x → P x
of_all P xs index x all is = subst P (get_or_from_slice_get xs index x x is) (all index x (slice_get_within xs index x is))

-- what is true at each index is true of all members
pub all_of : {X : Type 0} (P : X → Type 0) (xs : List X) → ((index : ℕ) (x : X) → slice_get xs index ≡ Some x → P x) → All P xs
all_of P xs each = λ index d below. each index (get_or xs index d) (slice_get-get_or xs index d below)

-- ---- mapped lists
-- what stands at an index of a mapped list is f of the member there
pub mapped : {X Y : Type 0} (f : X → Y) (xs : List X) (index : ℕ) (x : X) → slice_get xs index ≡ Some x → slice_get (map f xs) index ≡ Some (f x)
mapped f xs index x is = slice_get-map f xs index ∙ ap (option_map f) is

-- what stands in a mapped list was made of the member at the same index
pub mapped_from : {X Y : Type 0} (f : X → Y) (xs : List X) (index : ℕ) (y : Y) → slice_get (map f xs) index ≡ Some y → (x : X) × (slice_get xs index ≡ Some x)
    × (f x ≡ y)
mapped_from f [] index y is = absurd (none-some y is)
mapped_from f (x ∷ xs) zero y is = (x, refl, same_Some (f x) y is)
mapped_from f (x ∷ xs) (suc index) y is = mapped_from f xs index y is

pub map_pushed : {X Y : Type 0} (f : X → Y) (xs : List X) (x : X) → map f (xs ++ x ∷ []) ≡ map f xs ++ f x ∷ []
map_pushed f [] x = refl
map_pushed f (y ∷ xs) x = ap (λ l. f y ∷ l) (map_pushed f xs x)

-- a mapped list is as long as the list
pub map_length : {X Y : Type 0} (f : X → Y) (xs : List X) → length (map f xs) ≡ length xs
map_length f [] = refl
map_length f (x ∷ xs) = ap suc (map_length f xs)

-- to map by g and then by f is to map once, by g and f together
pub map_map : {X Y Z : Type 0} (f : Y → Z) (g : X → Y) (xs : List X) → map f (map g xs) ≡ map (λ x. f (g x)) xs
map_map f g [] = refl
map_map f g (x ∷ xs) = ap (λ l. f (g x) ∷ l) (map_map f g xs)

-- the list of f 0, f 1 and so on, up to n: what stands at an index
pub range_at : {X : Type 0} (f : ℕ → X) (n index : ℕ) (x : X) → slice_get (map f (range_with_len 0 n)) index ≡ Some x → (index < n) × (x ≡ f index)
range_at f n index x is =
    let len = length-map-range_with_len f 0 n in
    let within = slice_get_within _ index x is in
    let below : index < n = omega (arith, len, within) in
    (below, sym (get_or_from_slice_get _ index x x is) ∙ get_or-map-range_with_len f 0 n index index x below (omega arith))

-- ---- a list in which one member was set
-- what stands at an index after y was set at index i is y, at i, or what stood there before, elsewhere
pub set_or_kept : {X : Type 0} (xs : List X) (i : ℕ) (y : X) (index : ℕ) (x : X) → slice_get (set xs i y) index ≡ Some x
    → ((index ≡ i) × (y ≡ x)) ⊎ ((index ≢ i) × (slice_get xs index ≡ Some x))
set_or_kept [] i y index x is = absurd (none-some x is)
set_or_kept (z ∷ xs) zero y zero x is = inl (refl, same_Some y x is)
set_or_kept (z ∷ xs) zero y (suc index) x is = inr (λ e. absurd (omega (arith, e)), is)
set_or_kept (z ∷ xs) (suc i) y zero x is = inr (λ e. absurd (omega (arith, e)), is)
set_or_kept (z ∷ xs) (suc i) y (suc index) x is =
    elim (set_or_kept xs i y index x is) [ inl k ↦ inl (ap suc k.0, k.1) | inr k ↦ inr (λ e. k.0 (omega (arith, e)), k.1) ]

-- ---- a list in which one member took the place of a run of them
-- how long the list is then
pub replaced_length : {X : Type 0} (xs : List X) (x : X) (from to : ℕ) → from ≤ to → to ≤ length xs
    → length (take from xs ++ x ∷ drop to xs) + to ≡ length xs + from + 1
replaced_length xs x from to order within =
    omega (arith, length-append (take from xs) (x ∷ drop to xs), length-take-le from xs (omega arith), length-drop to xs)

-- ---- two lists, index by index
-- lists of one length with the same member at each index are one
pub same_indices : {X : Type 0} (xs ys : List X) → length xs ≡ length ys
    → ((index : ℕ) (x y : X) → slice_get xs index ≡ Some x → slice_get ys index ≡ Some y → x ≡ y) → xs ≡ ys
same_indices [] [] same each = refl
same_indices [] (y ∷ ys) same each = absurd (omega (arith, same))
same_indices (x ∷ xs) [] same each = absurd (omega (arith, same))
same_indices (x ∷ xs) (y ∷ ys) same each =
    let head = each 0 x y refl refl in
    let rest = same_indices xs ys (omega (arith, same)) (λ index. each (suc index)) in cc

-- lists whose members at each index go together, counted from n, are paired
pub paired_at : {X Y : Type 0} (R : ℕ → X → Y → Type 0) (n : ℕ) (xs : List X) (ys : List Y) → length xs ≡ length ys
    → ((index : ℕ) (x : X) (y : Y) → slice_get xs index ≡ Some x → slice_get ys index ≡ Some y → R (n + index) x y) → PairedFrom R n xs ys
paired_at R n [] [] same each = tt
paired_at R n [] (y ∷ ys) same each = absurd (omega (arith, same))
paired_at R n (x ∷ xs) [] same each = absurd (omega (arith, same))
paired_at R n (x ∷ xs) (y ∷ ys) same each =
    let first : n + 0 ≡ n = omega arith in (
      subst (λ (k : ℕ). R k x y) first (each 0 x y refl refl),
      paired_at R (n + 1) xs ys (omega (arith, same)) (λ index v w in_xs in_ys.
          let next : n + suc index ≡ (n + 1) + index = omega arith in
          subst (λ (k : ℕ). R k v w) next (each (suc index) v w in_xs in_ys)),
    )

-- ---- a list that is gone through
-- what was made of its members so far, and what is left of it
pub moved : {X Y : Type 0} (f : X → Y) (xs : List X) (x : X) (y : Y) (rest rest' all : List Y) → map f xs ++ rest ≡ all → rest ≡ y ∷ rest' → f x ≡ y
    → map f (xs ++ x ∷ []) ++ rest' ≡ all
moved f [] x y rest rest' all was step is = ap (λ z. z ∷ rest') is ∙ (sym step ∙ was)
moved f (w ∷ xs) x y rest rest' [] was step is = cc
moved f (w ∷ xs) x y rest rest' (v ∷ all) was step is =
    let tail = moved f xs x y rest rest' all (cc) step is in cc

-- ---- three lists, index by index
-- a relation holds between the members at each index, here of three lists
abbrev pub Threes : {X Y Z : Type 0} → (X → Y → Z → Type 0) → List X → List Y → List Z → Type 0
Threes {X} {Y} {Z} R xs ys zs = (index : ℕ) (x : X) (y : Y) (z : Z) → slice_get xs index ≡ Some x → slice_get ys index ≡ Some y → slice_get zs index ≡ Some z
    → R x y z

-- three lists that each get one more member
pub threes_pushed : {X Y Z : Type 0} (R : X → Y → Z → Type 0) (xs : List X) (ys : List Y) (zs : List Z) (x : X) (y : Y) (z : Z)
    → length xs ≡ length ys → length xs ≡ length zs → Threes R xs ys zs → R x y z → Threes R (xs ++ x ∷ []) (ys ++ y ∷ []) (zs ++ z ∷ [])
threes_pushed R xs ys zs x y z in_ys in_zs each last index u v w is_u is_v is_w =
    elim (before_or_last xs u x index is_u) as (λ _. R u v w) [
      | inl before ↦
          (let below = slice_get_within xs index u before in
          each index u v w before
          (sym (slice_get_before ys y index (omega (arith, below, in_ys))) ∙ is_v)
          (sym (slice_get_before zs z index (omega (arith, below, in_zs))) ∙ is_w))
      | inr at ↦
          (let v_is : y ≡ v = same_Some y v (sym (slice_get_last ys y) ∙ (ap (slice_get (ys ++ y ∷ [])) (sym (at.0 ∙ in_ys)) ∙ is_v)) in
          let w_is : z ≡ w = same_Some z w (sym (slice_get_last zs z) ∙ (ap (slice_get (zs ++ z ∷ [])) (sym (at.0 ∙ in_zs)) ∙ is_w)) in
          rw (← at.1, ← v_is, ← w_is) last)
    ]

-- the same of two lists
abbrev pub Twos : {X Y : Type 0} → (X → Y → Type 0) → List X → List Y → Type 0
Twos {X} {Y} R xs ys = (index : ℕ) (x : X) (y : Y) → slice_get xs index ≡ Some x → slice_get ys index ≡ Some y → R x y

-- two lists that each get one more member
pub twos_pushed : {X Y : Type 0} (R : X → Y → Type 0) (xs : List X) (ys : List Y) (x : X) (y : Y) → length xs ≡ length ys → Twos R xs ys → R x y
    → Twos R (xs ++ x ∷ []) (ys ++ y ∷ [])
twos_pushed R xs ys x y same each last index u v is_u is_v =
    threes_pushed (λ u v _. R u v) xs ys ys x y y same same (λ index u v w is_u is_v is_w. each index u v is_u is_v) last index u v v is_u is_v is_v
