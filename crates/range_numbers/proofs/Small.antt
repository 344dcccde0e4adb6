-- Numbers of which none is above 9.
use Rattle.std.proofs.Common.{◌≡◌, ◌+◌, ◌*◌, ◌≤◌, ◌&&◌, ◌^◌, ◌%◌, ◌-◌, ◌∙◌, ℕ, Bool, false, true, List, [], ◌∷◌, map, length, nat_eq, nat_lt, not, cond, ltb, refl, sym, w32, arith, tests}
use lib.Lanes.{zip2, sel_l, mask_l, top}
use lib.ListN.{replicate}
use mir.Val.{bits, hbits}
use Rattle.std.proofs.lemmas.Simd.{mask_l-mod, tops_compared}
use Rattle.range_numbers.specs.Groups.{are_small}

-- the greater of two
abbrev greater : ℕ → ℕ → ℕ
greater x y = cond (ltb x y) y x

one_small : (x y : ℕ) → not (ltb 9 (greater x y)) ≡ (nat_lt x 10 && nat_lt y 10)
one_small x y = grind (arith, tests)

no_bit : (b : Bool) (m : ℕ) → nat_eq (cond b 1 0 + 2 * m) 0 ≡ (not b && nat_eq m 0)
no_bit true m = grind (arith, tests)
no_bit false m = grind (arith, tests)

both_pairs : (a b c d : Bool) → ((a && b) && (c && d)) ≡ ((a && c) && (b && d))
both_pairs true true c d = refl
both_pairs true false true d = refl
both_pairs true false false d = refl
both_pairs false b c d = refl

-- no bit of the mask is set exactly where all are small
small_by_mask : (xs ys : List ℕ) → length xs ≡ length ys
    → nat_eq (mask_l (zip2 ltb (replicate (length xs) 9) (sel_l (zip2 ltb xs ys) ys xs))) 0 ≡ (are_small xs && are_small ys)
small_by_mask [] [] e = refl
small_by_mask [] (y ∷ ys) e = cc e
small_by_mask (x ∷ xs) [] e = cc e
small_by_mask (x ∷ xs) (y ∷ ys) e =
    let rest = small_by_mask xs ys (omega (arith, e)) in
    no_bit (ltb 9 (greater x y)) (mask_l (zip2 ltb (replicate (length xs) 9) (sel_l (zip2 ltb xs ys) ys xs)))
    ∙ rw (one_small x y, rest) refl
    ∙ both_pairs (nat_lt x 10) (nat_lt y 10) (are_small xs) (are_small ys)

length_of_zip2 : (f : ℕ → ℕ → Bool) (xs ys : List ℕ) → length (zip2 f xs ys) ≤ length xs
length_of_zip2 f [] ys = omega arith
length_of_zip2 f (x ∷ xs) [] = omega arith
length_of_zip2 f (x ∷ xs) (y ∷ ys) = omega (arith, length_of_zip2 f xs ys)

-- the lanes of a comparison
abbrev less : ℕ → ℕ → ℕ
less a b = cond (ltb a b) (2 ^ bits w32 - 1) 0

-- the same of four and four, by the operations on vectors
pub small_lanes : (xs ys : List ℕ) → length xs ≡ 4 → length ys ≡ 4
    → nat_eq (mask_l (map (top (hbits w32)) (zip2 less (9 ∷ 9 ∷ 9 ∷ 9 ∷ []) (sel_l (map (top (hbits w32)) (zip2 less xs ys)) ys xs))) % 2 ^ 64) 0
    ≡ (are_small xs && are_small ys)
small_lanes xs ys few few_too =
    let nines = 9 ∷ 9 ∷ 9 ∷ 9 ∷ [] in
    let same : length xs ≡ length ys = few ∙ sym few_too in
    let chosen = sel_l (zip2 ltb xs ys) ys xs in
    let many : length (zip2 ltb nines chosen) ≤ 64 = omega (arith, length_of_zip2 ltb nines chosen) in
    rw (tops_compared w32 ltb xs ys, tops_compared w32 ltb nines chosen, mask_l-mod (zip2 ltb nines chosen) 64 many)
    (rw few at (small_by_mask xs ys same))
