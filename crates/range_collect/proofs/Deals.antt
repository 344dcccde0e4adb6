-- Lists that are dealt to shares in turn.
use Rattle.std.proofs.Common.{◌≡◌, ◌≢◌, ◌⊎◌, inl, inr, ℕ, zero, suc, ◌+◌, ◌-◌, ◌*◌, ◌/◌, ◌%◌, ◌<◌, ◌≤◌, List, [], ◌∷◌, ◌++◌, length, map, set, drop, refl, ap, sym, subst, ◌∙◌, arith}
use Rattle.std.proofs.Common.{slice_get, Some, option_map, suc-mul, ◌↔◌, All}
use Rattle.std.proofs.Math.Nat.{div-eq_of_lt-le, le-mul_of_pos_right, mod-eq_of_lt, mod-lt, mul-le-mul_right}
use Rattle.std.proofs.lemmas.List.{length-drop, length-set}
use Rattle.std.proofs.lemmas.Nat.{div-add-mod', div-mul-add, mod-mul-add}
use Rattle.std.proofs.lemmas.Option.{same_Some, slice_get-map, slice_get_past, slice_get_within}
use Rattle.range_collect.specs.Shares.{AreDealt, AreSharesOf}
use Rattle.range_lemmas.proofs.Indices.{map_length, mapped, mapped_from, of_all, set_or_kept, slice_get_last, there_is}

-- ---- stride
-- a number is at most another, or above it
pub at_most_or_more : (a b : ℕ) → (a ≤ b) ⊎ (b < a)
at_most_or_more zero b = inl (omega arith)
at_most_or_more (suc a) zero = inr (omega arith)
at_most_or_more (suc a) (suc b) = elim (at_most_or_more a b) [ inl h ↦ inl (omega (arith, h)) | inr h ↦ inr (omega (arith, h)) ]

same_or_not : (a b : ℕ) → (a ≡ b) ⊎ (a ≢ b)
same_or_not zero zero = inl refl
same_or_not zero (suc b) = inr (λ e. absurd (omega (arith, e)))
same_or_not (suc a) zero = inr (λ e. absurd (omega (arith, e)))
same_or_not (suc a) (suc b) = elim (same_or_not a b) [ inl e ↦ inl (ap suc e) | inr other ↦ inr (λ e. other (omega (arith, e))) ]

-- stride with one quotient and one remainder are one
same_number : (a b n : ℕ) → a / n ≡ b / n → a % n ≡ b % n → a ≡ b
same_number a b n quotient remainder = sym (div-add-mod' a n) ∙ (rw (quotient, remainder) (div-add-mod' b n))

-- ---- lists
-- members but the last are those before it was pushed
pushed_other : {X : Type 0} (xs : List X) (x : X) (i : ℕ) → i ≢ length xs → slice_get xs i ≡ slice_get (xs ++ x ∷ []) i
pushed_other [] x zero other = absurd (other refl)
pushed_other [] x (suc i) other = refl
pushed_other (y ∷ xs) x zero other = refl
pushed_other (y ∷ xs) x (suc i) other = pushed_other xs x i (λ e. other (ap suc e))

-- what is left after some members begins with the next
first_left : {X : Type 0} (xs : List X) (t : ℕ) (x : X) (rest : List X) → drop t xs ≡ x ∷ rest → slice_get xs t ≡ Some x
first_left [] zero x rest is = absurd (cc)
first_left [] (suc t) x rest is = absurd (cc)
first_left (y ∷ xs) zero x rest is = ap (λ l. slice_get l 0) is
first_left (y ∷ xs) (suc t) x rest is = first_left xs t x rest is

-- and goes on with those after it
rest_left : {X : Type 0} (xs : List X) (t : ℕ) (x : X) (rest : List X) → drop t xs ≡ x ∷ rest → drop (suc t) xs ≡ rest
rest_left [] zero x rest is = absurd (cc)
rest_left [] (suc t) x rest is = absurd (cc)
rest_left (y ∷ xs) zero x rest is = ap (drop 1) is
rest_left (y ∷ xs) (suc t) x rest is = rest_left xs t x rest is

-- where a member is set in a list, its image is set in the image of the list
pub map_set : {X Y : Type 0} (f : X → Y) (xs : List X) (i : ℕ) (x : X) → map f (set xs i x) ≡ set (map f xs) i (f x)
map_set f [] i x = refl
map_set f (y ∷ xs) zero x = refl
map_set f (y ∷ xs) (suc i) x = ap (λ l. f y ∷ l) (map_set f xs i x)

-- ---- shares
-- what a function makes of a list's members is dealt as they are
pub dealt_map : {X Y : Type 0} (f : X → Y) (xs : List X) (shares : List (List X)) → AreDealt xs shares → AreDealt (map f xs) (map (map f) shares)
dealt_map {X} {Y} f xs shares dealt i share is =
    let n : length (map (map f) shares) ≡ length shares = map_length (map f) shares in
    let own = mapped_from (map f) shares (i % length (map (map f) shares)) share is in
    let at = dealt i own.0 (subst (λ (k : ℕ). slice_get shares (i % k) ≡ Some own.0) n own.1) in
    ap (λ (k : ℕ). slice_get share (i / k)) n
    ∙ (ap (λ (l : List Y). slice_get l (i / length shares)) (sym own.2)
    ∙ (slice_get-map f own.0 (i / length shares) ∙ (ap (option_map f) at ∙ sym (slice_get-map f xs i))))

-- the share that a member is in
pub share_of : {X : Type 0} (xs : List X) (shares : List (List X)) (i : ℕ) (x : X) → AreDealt xs shares → 0 < length shares → slice_get xs i ≡ Some x
    → (share : List X) × (slice_get shares (i % length shares) ≡ Some share) × (slice_get share (i / length shares) ≡ Some x)
share_of xs shares i x dealt some is = let s = there_is shares (i % length shares) (mod-lt i some) in (s.0, s.1, dealt i s.0 s.1 ∙ is)

-- the shares that a list was dealt to have as many members as they have of a list of its length
pub dealt_sizes : {X : Type 0} (xs : List X) (shares : List (List X)) → AreDealt xs shares → AreSharesOf (length xs) shares
dealt_sizes xs shares dealt i share is = (
  λ below. let x = there_is share (i / length shares) below in slice_get_within xs i x.0 (sym (dealt i share is) ∙ x.1),
  λ below. let x = there_is xs i below in slice_get_within share (i / length shares) x.0 (dealt i share is ∙ x.1),
)

-- shares that are as long as others are of a list of as many members
pub sizes_alike : {X Y : Type 0} (count : ℕ) (shares : List (List X)) (others : List (List Y)) → map length others ≡ map length shares
    → AreSharesOf count shares → AreSharesOf count others
sizes_alike {X} {Y} count shares others same sizes i share is =
    let n : length others ≡ length shares = sym (map_length length others) ∙ (ap length same ∙ map_length length shares) in
    let k : ℕ = i % length shares in
    let in_others : slice_get others k ≡ Some share = subst (λ (m : ℕ). slice_get others (i % m) ≡ Some share) n is in
    let own = mapped_from length shares k (length share) (ap (λ (l : List ℕ). slice_get l k) (sym same) ∙ mapped length others k share in_others) in
    subst (λ (m : ℕ). (i / m < length share) ↔ (i < count)) (sym n)
    (subst (λ (m : ℕ). (i / length shares < m) ↔ (i < count)) own.2 (sizes i own.0 own.1))

-- no share is empty where there are at most as many as members, nor longer than the list
pub share_sizes : {X : Type 0} (xs : List X) (shares : List (List X)) (k : ℕ) (share : List X) → AreDealt xs shares → length shares ≤ length xs
    → slice_get shares k ≡ Some share → (1 ≤ length share) × (length share ≤ length xs)
share_sizes {X} xs shares k share dealt few is =
    let n : ℕ = length shares in
    let below : k < n = slice_get_within shares k share is in
    let sizes = dealt_sizes xs shares dealt in
    let first : slice_get shares (k % n) ≡ Some share = ap (slice_get shares) (mod-eq_of_lt below) ∙ is in
    let some = (sizes k share first).1 (omega (arith, below, few)) in
    let before : ℕ = length share - 1 in
    let last : ℕ = before * n + k in
    let in_share : slice_get shares (last % n) ≡ Some share = ap (slice_get shares) (mod-mul-add before n k below) ∙ is in
    let quotient : last / n ≡ before = div-mul-add before n k below in
    let within = (sizes last share in_share).0 (omega (arith, quotient, some)) in
    let product : before ≤ before * n = le-mul_of_pos_right before (omega (arith, below)) in
    (omega (arith, some), omega (arith, within, product, some))

-- ---- dealing
-- shares with nothing in them are those of no members
pub none_dealt : {V X : Type 0} (items : V → List X) (shares : List V) → All (λ share. items share ≡ []) shares → AreDealt [] (map items shares)
none_dealt {V} {X} items shares empty i share is =
    let own = mapped_from items shares (i % length (map items shares)) share is in
    ap (λ (l : List X). slice_get l (i / length (map items shares))) (sym own.2 ∙ of_all (λ v. items v ≡ []) shares _ own.0 empty own.1)

-- the share that the next member goes to has one for each round before
next_index : {X : Type 0} (xs : List X) (shares : List (List X)) (share : List X) → AreDealt xs shares → 0 < length shares
    → slice_get shares (length xs % length shares) ≡ Some share → length share ≡ length xs / length shares
next_index {X} xs shares share dealt some is =
    let n : ℕ = length shares in
    let m : ℕ = length xs in
    let over : m % n < n = mod-lt m some in
    let sizes = dealt_sizes xs shares dealt in
    let next : ℕ = length share * n + m % n in
    let in_share : slice_get shares (next % n) ≡ Some share = ap (slice_get shares) (mod-mul-add (length share) n (m % n) over) ∙ is in
    let quotient : next / n ≡ length share = div-mul-add (length share) n (m % n) over in
    let whole : m / n * n + m % n ≡ m = div-add-mod' m n in
    elim (at_most_or_more (length share) (m / n)) as (λ _. length share ≡ m / n) [
      | inr more ↦ (let no = (sizes m share is).0 more in absurd (omega (arith, no)))
      | inl most ↦ elim (at_most_or_more (m / n) (length share)) as (λ _. length share ≡ m / n) [
        | inl least ↦ omega (arith, most, least)
        | inr fewer ↦
            (let product : suc (length share) * n ≤ m / n * n = mul-le-mul_right n fewer in
            let within = (sizes next share in_share).1 (omega (arith, product, whole, suc-mul (length share) n, some)) in
            absurd (omega (arith, within, quotient)))
      ]
    ]

-- one more member goes to the share that its index leaves over
pub dealt_more : {X : Type 0} (xs : List X) (x : X) (shares : List (List X)) (share : List X) → AreDealt xs shares → 0 < length shares
    → slice_get shares (length xs % length shares) ≡ Some share
    → AreDealt (xs ++ x ∷ []) (set shares (length xs % length shares) (share ++ x ∷ []))
dealt_more {X} xs x shares share dealt some in_shares i s is =
    let n : ℕ = length shares in
    let k : ℕ = length xs % n in
    let same : length (set shares k (share ++ x ∷ [])) ≡ n = length-set shares k (share ++ x ∷ []) in
    let last : length share ≡ length xs / n = next_index xs shares share dealt some in_shares in
    ap (λ (m : ℕ). slice_get s (i / m)) same
    ∙ elim (set_or_kept shares k (share ++ x ∷ []) (i % n) s (subst (λ (m : ℕ). slice_get (set shares k (share ++ x ∷ [])) (i % m) ≡ Some s) same is))
    as (λ _. slice_get s (i / n) ≡ slice_get (xs ++ x ∷ []) i) [
      | inl here ↦ ap (λ (l : List X). slice_get l (i / n)) (sym here.1) ∙ elim (same_or_not i (length xs))
          as (λ _. slice_get (share ++ x ∷ []) (i / n) ≡ slice_get (xs ++ x ∷ []) i) [
            | inl e ↦
                (let quotient : i / n ≡ length share = ap (λ (m : ℕ). m / n) e ∙ sym last in
                ap (slice_get (share ++ x ∷ [])) quotient ∙ (slice_get_last share x ∙ (sym (slice_get_last xs x) ∙ ap (slice_get (xs ++ x ∷ [])) (sym e))))
            | inr other ↦
                (let elsewhere : i / n ≢ length share = λ e. other (same_number i (length xs) n (e ∙ last) here.0) in
                let own : slice_get shares (i % n) ≡ Some share = ap (slice_get shares) here.0 ∙ in_shares in
                sym (pushed_other share x (i / n) elsewhere) ∙ (dealt i share own ∙ pushed_other xs x i other))
          ]
      | inr there ↦ dealt i s there.1 ∙ pushed_other xs x i (λ e. there.0 (ap (λ (m : ℕ). m % n) e))
    ]

-- ---- merging
-- what is left of each share once this many members were taken of all shares in turn
abbrev pub AreLeft : {X : Type 0} → ℕ → List (List X) → List (List X) → Type 0
AreLeft {X} i left shares = (k : ℕ) (l share : List X) → slice_get left k ≡ Some l → slice_get shares k ≡ Some share
    → (taken : ℕ) × (l ≡ drop taken share) × (i ≤ taken * length shares + k) × (taken * length shares + k < i + length shares)

-- the members that were taken
abbrev pub AreTaken : {X : Type 0} → ℕ → List X → List (List X) → Type 0
AreTaken {X} i all shares = (j : ℕ) (share : List X) → j < i → slice_get shares (j % length shares) ≡ Some share
    → slice_get share (j / length shares) ≡ slice_get all j

-- before a member is taken all of each share is left
pub all_left : {X : Type 0} (left shares : List (List X)) → left ≡ shares → AreLeft 0 left shares
all_left {X} left shares same k l share in_left in_shares =
    let below = slice_get_within shares k share in_shares in
    let none : 0 * length shares + k ≡ k = omega arith in
    (0, cc, omega arith, omega (arith, below, none))

-- of the share that is next as many members were taken as there were rounds
left_next : {X : Type 0} (i : ℕ) (left shares : List (List X)) (l share : List X) → AreLeft i left shares → 0 < length shares
    → slice_get left (i % length shares) ≡ Some l → slice_get shares (i % length shares) ≡ Some share → l ≡ drop (i / length shares) share
left_next {X} i left shares l share are some in_left in_shares =
    let n : ℕ = length shares in
    let at = are (i % n) l share in_left in_shares in
    let whole : i / n * n + i % n ≡ i = div-add-mod' i n in
    let next = suc-mul (i / n) n in
    let more : i / n + 1 ≡ suc (i / n) = omega arith in
    let most : at.0 * n < (i / n + 1) * n = rw more (omega (arith, at.3, whole, next)) in
    let own : at.0 * n / n ≡ at.0 = subst (λ (m : ℕ). m / n ≡ at.0) (omega arith) (div-mul-add at.0 n 0 some) in
    let rounds : at.0 ≡ i / n = sym own ∙ div-eq_of_lt-le n (omega (arith, at.2, whole)) most in
    at.1 ∙ ap (λ (t : ℕ). drop t share) rounds

-- the next member is the one that comes next in the list, and what is left of the others stays
module _ {X : Type 0} (i : ℕ) (left shares : List (List X)) (x : X) (l share : List X) (are : AreLeft i left shares) (some : 0 < length shares)
    (in_left : slice_get left (i % length shares) ≡ Some (x ∷ l)) (in_shares : slice_get shares (i % length shares) ≡ Some share) where
  next_left : x ∷ l ≡ drop (i / length shares) share
  next_left = left_next i left shares (x ∷ l) share are some in_left in_shares

  -- the first that is left of the next share is its member i / n, where there are n shares
  pub next_member : slice_get share (i / length shares) ≡ Some x
  next_member = first_left share (i / length shares) x l (sym next_left)

  -- once it is taken, what is left of the shares is what one more member leaves
  pub left_more : AreLeft (i + 1) (set left (i % length shares) l) shares
  left_more k m other in_set in_others =
      let n : ℕ = length shares in
      let whole : i / n * n + i % n ≡ i = div-add-mod' i n in
      elim (set_or_kept left (i % n) l k m in_set)
      as (λ _. (taken : ℕ) × (m ≡ drop taken other) × (i + 1 ≤ taken * n + k) × (taken * n + k < i + 1 + n)) [
        | inl here ↦
            (let own : share ≡ other = same_Some share other (sym in_shares ∙ (ap (slice_get shares) (sym here.0) ∙ in_others)) in
            let rest : drop (suc (i / n)) share ≡ l = rest_left share (i / n) x l (sym next_left) in
            let next = suc-mul (i / n) n in (
              suc (i / n),
              sym here.1 ∙ (sym rest ∙ ap (drop (suc (i / n))) own),
              omega (arith, next, whole, here.0, some),
              omega (arith, next, whole, here.0),
            ))
        | inr there ↦
            (let at = are k m other there.1 in_others in
            let below = slice_get_within shares k other in_others in
            let passed : at.0 * n + k ≢ i = λ e. there.0 (sym (mod-mul-add at.0 n k below) ∙ ap (λ (j : ℕ). j % n) e) in
            elim (same_or_not (at.0 * n + k) i)
            as (λ _. (taken : ℕ) × (m ≡ drop taken other) × (i + 1 ≤ taken * n + k) × (taken * n + k < i + 1 + n)) [
              | inl e ↦ absurd (passed e)
              | inr other ↦ (at.0, at.1, omega (arith, at.2, other), omega (arith, at.3))
            ])
      ]

-- and is taken
pub taken_more : {X : Type 0} (i : ℕ) (all : List X) (shares : List (List X)) (x : X) → length all ≡ i → AreTaken i all shares
    → ((share : List X) → slice_get shares (i % length shares) ≡ Some share → slice_get share (i / length shares) ≡ Some x)
    → AreTaken (i + 1) (all ++ x ∷ []) shares
taken_more {X} i all shares x count taken next j share below is = elim (same_or_not j i)
    as (λ _. slice_get share (j / length shares) ≡ slice_get (all ++ x ∷ []) j) [
      | inl e ↦
          (let own : slice_get shares (i % length shares) ≡ Some share = subst (λ (m : ℕ). slice_get shares (m % length shares) ≡ Some share) e is in
          ap (λ (m : ℕ). slice_get share (m / length shares)) e
          ∙ (next share own ∙ (sym (slice_get_last all x) ∙ ap (slice_get (all ++ x ∷ [])) (count ∙ sym e))))
      | inr other ↦ taken j share (omega (arith, below, other)) is ∙ pushed_other all x j (λ e. other (e ∙ count))
    ]

-- once all were taken
pub all_taken : {X : Type 0} (count : ℕ) (all : List X) (shares : List (List X)) → length all ≡ count → AreTaken count all shares → AreSharesOf count shares
    → AreDealt all shares
all_taken {X} count all shares size taken sizes i share is = elim (at_most_or_more count i)
    as (λ _. slice_get share (i / length shares) ≡ slice_get all i) [
      | inr below ↦ taken i share below is
      | inl past ↦ elim (at_most_or_more (length share) (i / length shares))
          as (λ _. slice_get share (i / length shares) ≡ slice_get all i) [
            | inl none ↦ slice_get_past share (i / length shares) none ∙ sym (slice_get_past all i (omega (arith, size, past)))
            | inr some ↦ (let no = (sizes i share is).0 some in absurd (omega (arith, no, past)))
          ]
    ]

-- the share that is next is not empty before all were taken
pub some_left : {X : Type 0} (i count : ℕ) (left shares : List (List X)) (l share : List X) → AreLeft i left shares → AreSharesOf count shares → i < count
    → 0 < length shares → slice_get left (i % length shares) ≡ Some l → slice_get shares (i % length shares) ≡ Some share → 0 < length l
some_left {X} i count left shares l share are sizes below some in_left in_shares =
    let next = ap length (left_next i left shares l share are some in_left in_shares) in
    let within = (sizes i share in_shares).1 below in
    omega (arith, next, within, length-drop (i / length shares) share)
