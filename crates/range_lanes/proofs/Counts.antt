-- Counts over lanes.
use Rattle.std.proofs.Common.{◌≡◌, refl, ℕ, ◌+◌, ◌<◌, ◌≤◌, ℤ, Bool, true, false, cond, List, [], ◌∷◌, ◌++◌, length, map, slice_get, Some, take, count_by, ap, ap₂, ◌∙◌, sym, arith}
use lib.Lanes.{chunk}
use mir.Val.{bool_byte}
use Rattle.std.proofs.Math.Seq.{take-add}
use Rattle.std.proofs.lemmas.List.Folds.{fold-map}
use Rattle.std.proofs.lemmas.List.Sums.{count_by-le-length, sum_by-append, sum_by-cons}
use Rattle.range_plane.specs.Plane.{Position}
use Rattle.range_lanes.specs.Lanes.{is_not_negative}
use Rattle.range_lanes.proofs.Eights.{group_more}

-- as many results of a test are true as members pass it
pub count_of_map : {A : Type 0} (p : A → Bool) (xs : List A) → count_by (λ b. b) (map p xs) ≡ count_by p xs
count_of_map p xs = fold-map (λ a b. a + cond b 1 0) p 0 xs

-- as many numbers are not negative as points pass the test
pub count_signs : (p : Position → Bool) (vs : List Position) (zs : List ℤ) → map is_not_negative zs ≡ map p vs → count_by is_not_negative zs ≡ count_by p vs
count_signs p vs zs e = sym (count_of_map is_not_negative zs) ∙ ap (count_by (λ b. b)) e ∙ count_of_map p vs

-- one more group of eight
pub count_more : (p : Position → Bool) (at : ℕ) (ps : List Position) → count_by p (take at ps) + count_by p (chunk at 8 ps) ≡ count_by p (take (at + 8) ps)
count_more p at ps = sym (sum_by-append (λ x. cond (p x) 1 0) (take at ps) (chunk at 8 ps)) ∙ ap (count_by p) (sym (take-add at 8 ps))

is_one : (b : Bool) → ◌≡◌ {A = ℕ} (cond b 1 0) 1 → b ≡ true
is_one true e = refl
is_one false e = cc

-- where all pass a test, all pass a weaker one
pub all_pass : {A : Type 0} (f g : A → Bool) → ((x : A) → f x ≡ true → g x ≡ true) → (xs : List A) → count_by f xs ≡ length xs → map f xs ≡ map g xs
all_pass f g weaker [] all = refl
all_pass f g weaker (x ∷ xs) all =
    let parts = sum_by-cons (λ y. cond (f y) 1 0) x xs in
    let few = count_by-le-length f xs in
    let bit = at_most_one (f x) in
    let yes : f x ≡ true = is_one (f x) (omega (arith, all, parts, few, bit)) in
    let rest : count_by f xs ≡ length xs = omega (arith, all, parts, few, bit) in
    ap₂ (λ b l. b ∷ l) (yes ∙ sym (weaker x yes)) (all_pass f g weaker xs rest)
  where
    at_most_one : (b : Bool) → cond b 1 0 ≤ 1
    at_most_one true = omega arith
    at_most_one false = omega arith

-- where none passes a test, none passes a stronger one
pub none_pass : {A : Type 0} (f g : A → Bool) → ((x : A) → g x ≡ true → f x ≡ true) → (xs : List A) → count_by f xs ≡ 0 → count_by g xs ≡ 0
none_pass f g stronger [] none = refl
none_pass f g stronger (x ∷ xs) none =
    let parts = sum_by-cons (λ y. cond (f y) 1 0) x xs in
    let out : cond (g x) 1 0 ≡ 0 = is_out (f x) (g x) (stronger x) (omega (arith, none, parts)) in
    omega (arith, sum_by-cons (λ y. cond (g y) 1 0) x xs, out, none_pass f g stronger xs (omega (arith, none, parts)))
  where
    is_out : (a b : Bool) → (b ≡ true → a ≡ true) → ◌≡◌ {A = ℕ} (cond a 1 0) 0 → ◌≡◌ {A = ℕ} (cond b 1 0) 0
    is_out true b h e = cc
    is_out false true h e = cc (h refl)
    is_out false false h e = refl

-- a test as the number that code makes of it
abbrev pub one_or_none : Bool → ℕ
one_or_none b = cond b 1 0

-- code makes the same number of a test
pub bit_of : (b : Bool) → bool_byte b ≡ one_or_none b
bit_of true = refl
bit_of false = refl

-- one point more of a group
pub count_one_more : (p : Position → Bool) (ps : List Position) (at i : ℕ) (q : Position) → at + i < length ps → slice_get ps (at + i) ≡ Some q
    → count_by p (chunk at i ps) + one_or_none (p q) ≡ count_by p (chunk at (i + 1) ps)
count_one_more p ps at i q within here =
    let bits = map p (chunk at i ps) in
    let more : map p (chunk at (i + 1) ps) ≡ bits ++ p q ∷ [] = group_more p ps at i q within here in
    let joined : count_by (λ b. b) (bits ++ p q ∷ []) ≡ count_by (λ b. b) bits + (0 + cond (p q) 1 0) = sum_by-append (λ b. cond b 1 0) bits (p q ∷ []) in
    omega (arith, joined, ap (count_by (λ b. b)) more, count_of_map p (chunk at i ps), count_of_map p (chunk at (i + 1) ps))
