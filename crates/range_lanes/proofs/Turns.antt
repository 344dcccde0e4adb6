-- Turns and margins, lane by lane.
use Rattle.std.proofs.Common.{◌≡◌, ℤ, pos, negsuc, ◌+ℤ◌, ◌-ℤ◌, ◌*ℤ◌, neg_ℤ, Bool, ◌&&◌, zero, suc, List, [], ◌∷◌, map, refl, ap, ◌∙◌, sym, subst, arith, lit<}
use Rattle.std.proofs.Common.{int_le, to_z, of_z, w64}
use lib.Lanes.{zip2, Each1}
use Rattle.std.proofs.lemmas.Int.{ints}
use Rattle.std.proofs.lemmas.Simd.{map-map, zip2-map, Each1-weaker}
use Rattle.range_plane.specs.Plane.{IsCoordinate, Position, turn, coordinate_limit, product_limit, turn_limit}
use Rattle.std.specs.Ordering.{int_eq}
use Rattle.range_plane.specs.ConvexCover.{scalar_product, is_on_segment}
use Rattle.range_lemmas.proofs.Integers.{linear, neg_product, product_comm}
use Rattle.range_lemmas.proofs.Sizes.{abs_add, abs_difference, abs_mul, abs_sub, difference_kept}
use Rattle.range_lanes.specs.Lanes.{IsBounded, is_not_negative}
use Rattle.range_lanes.proofs.Signed.{each_zip}
use Rattle.range_lanes.proofs.Eights.{each_map}

-- two functions with the same values make the same of a list
pub map_same : {A B : Type 0} (f g : A → B) → ((x : A) → f x ≡ g x) → (xs : List A) → map f xs ≡ map g xs
map_same f g s [] = refl
map_same f g s (x ∷ xs) = ap (λ y. y ∷ map f xs) (s x) ∙ ap (λ l. g x ∷ l) (map_same f g s xs)

-- what two products make, lane by lane, are turns
pub turns_value : (a b : Position) (vs : List Position) (north east s t r : List ℤ) → north ≡ map (λ p. p.n -ℤ a.n) vs → east ≡ map (λ p. p.e -ℤ a.e) vs
    → s ≡ map (λ x. (b.e -ℤ a.e) *ℤ x) north → t ≡ map (λ x. (b.n -ℤ a.n) *ℤ x) east → r ≡ zip2 ◌-ℤ◌ s t → r ≡ map (turn a b) vs
unfolding turn
turns_value a b vs north east s t r hn he hs ht hr =
    let first = hs ∙ ap (map (λ x. (b.e -ℤ a.e) *ℤ x)) hn ∙ map-map (λ x. (b.e -ℤ a.e) *ℤ x) (λ (p : Position). p.n -ℤ a.n) vs in
    let second = ht ∙ ap (map (λ x. (b.n -ℤ a.n) *ℤ x)) he ∙ map-map (λ x. (b.n -ℤ a.n) *ℤ x) (λ (p : Position). p.e -ℤ a.e) vs in
    hr ∙ ap (λ l. zip2 ◌-ℤ◌ l t) first ∙ ap (zip2 ◌-ℤ◌ (map (λ p. (b.e -ℤ a.e) *ℤ (p.n -ℤ a.n)) vs)) second
    ∙ zip2-map ◌-ℤ◌ (λ (p : Position). (b.e -ℤ a.e) *ℤ (p.n -ℤ a.n)) (λ (p : Position). (b.n -ℤ a.n) *ℤ (p.e -ℤ a.e)) vs

-- the same product by differences the other way round
product_back : (x a b : ℤ) → (x -ℤ a) *ℤ (x -ℤ b) ≡ (a -ℤ x) *ℤ (b -ℤ x)
product_back x a b =
    let first : x -ℤ a ≡ neg_ℤ (a -ℤ x) = omega (arith, linear) in
    let second : x -ℤ b ≡ neg_ℤ (b -ℤ x) = omega (arith, linear) in
    rw (first, second) (omega (
      arith,
      linear,
      neg_product (neg_ℤ (a -ℤ x)) (b -ℤ x),
      product_comm (neg_ℤ (a -ℤ x)) (b -ℤ x),
      neg_product (b -ℤ x) (a -ℤ x),
      product_comm (b -ℤ x) (a -ℤ x),
    ))

scalar_product_back : (a b q : Position) → ((q.e -ℤ a.e) *ℤ (q.e -ℤ b.e)) +ℤ ((q.n -ℤ a.n) *ℤ (q.n -ℤ b.n)) ≡ scalar_product q a b
unfolding scalar_product
scalar_product_back a b q = omega (arith, linear, product_back q.e a.e b.e, product_back q.n a.n b.n)

-- and scalar products
pub scalar_products_value : (a b : Position) (vs : List Position) (east east' north north' s t r : List ℤ)
    → east ≡ map (λ p. p.e -ℤ a.e) vs → east' ≡ map (λ p. p.e -ℤ b.e) vs → north ≡ map (λ p. p.n -ℤ a.n) vs → north' ≡ map (λ p. p.n -ℤ b.n) vs
    → s ≡ zip2 ◌*ℤ◌ east east' → t ≡ zip2 ◌*ℤ◌ north north' → r ≡ zip2 ◌+ℤ◌ s t → r ≡ map (λ q. scalar_product q a b) vs
scalar_products_value a b vs east east' north north' s t r he he' hn hn' hs ht hr =
    let first = hs ∙ ap (λ l. zip2 ◌*ℤ◌ l east') he ∙ ap (zip2 ◌*ℤ◌ (map (λ p. p.e -ℤ a.e) vs)) he'
    ∙ zip2-map ◌*ℤ◌ (λ (p : Position). p.e -ℤ a.e) (λ (p : Position). p.e -ℤ b.e) vs in
    let second = ht ∙ ap (λ l. zip2 ◌*ℤ◌ l north') hn ∙ ap (zip2 ◌*ℤ◌ (map (λ p. p.n -ℤ a.n) vs)) hn'
    ∙ zip2-map ◌*ℤ◌ (λ (p : Position). p.n -ℤ a.n) (λ (p : Position). p.n -ℤ b.n) vs in
    hr ∙ ap (λ l. zip2 ◌+ℤ◌ l t) first ∙ ap (zip2 ◌+ℤ◌ (map (λ p. (p.e -ℤ a.e) *ℤ (p.e -ℤ b.e)) vs)) second
    ∙ zip2-map ◌+ℤ◌ (λ (p : Position). (p.e -ℤ a.e) *ℤ (p.e -ℤ b.e)) (λ (p : Position). (p.n -ℤ a.n) *ℤ (p.n -ℤ b.n)) vs
    ∙ map_same (λ p. ((p.e -ℤ a.e) *ℤ (p.e -ℤ b.e)) +ℤ ((p.n -ℤ a.n) *ℤ (p.n -ℤ b.n))) (λ q. scalar_product q a b) (scalar_product_back a b) vs

-- ---- sizes
-- a difference of two coordinates, as code over i64 passes it on
pub factor_small : (x y : ℤ) → IsCoordinate x → IsCoordinate y → IsBounded coordinate_limit
    (to_z w64 (of_z w64 (to_z w64 (of_z w64 x) -ℤ to_z w64 (of_z w64 y))))
factor_small x y f g = subst (IsBounded coordinate_limit) (sym (difference_kept coordinate_limit (lit< tt) x y f g)) (abs_difference coordinate_limit x y f g)

-- products of coordinates, and sums and differences of these, stay within their limits
pub scaled_small : (k : ℤ) (xs ys : List ℤ) → IsBounded coordinate_limit k → Each1 (IsBounded coordinate_limit) xs → ys ≡ map (λ x. k *ℤ x) xs
    → Each1 (IsBounded product_limit) ys
scaled_small k xs ys hk h e =
    subst (Each1 (IsBounded product_limit)) (sym e) (each_map (λ x. k *ℤ x) (IsBounded coordinate_limit) (IsBounded product_limit)
    (λ x f. abs_mul k x coordinate_limit coordinate_limit hk f) xs h)

-- the products of two lists of numbers up to the size of a coordinate stay within the limit of products
pub times_small : (xs ys zs : List ℤ) → Each1 (IsBounded coordinate_limit) xs → Each1 (IsBounded coordinate_limit) ys → zs ≡ zip2 ◌*ℤ◌ xs ys
    → Each1 (IsBounded product_limit) zs
times_small xs ys zs f g e =
    subst (Each1 (IsBounded product_limit)) (sym e) (each_zip ◌*ℤ◌ (IsBounded coordinate_limit) (IsBounded coordinate_limit) (IsBounded product_limit)
    (λ x y p q. abs_mul x y coordinate_limit coordinate_limit p q) xs ys f g)

-- numbers within the limit of products are within that of turns
pub product_to_turn : (xs : List ℤ) → Each1 (IsBounded product_limit) xs → Each1 (IsBounded turn_limit) xs
product_to_turn xs h = Each1-weaker (IsBounded product_limit) (IsBounded turn_limit) (λ x f. omega arith) xs h

-- differences of numbers within the limit of products stay within that of turns
pub difference_small : (xs ys zs : List ℤ) → Each1 (IsBounded product_limit) xs → Each1 (IsBounded product_limit) ys → zs ≡ zip2 ◌-ℤ◌ xs ys
    → Each1 (IsBounded turn_limit) zs
difference_small xs ys zs f g e =
    subst (Each1 (IsBounded turn_limit)) (sym e) (each_zip ◌-ℤ◌ (IsBounded product_limit) (IsBounded product_limit) (IsBounded turn_limit)
    (λ x y p q. abs_sub x y product_limit product_limit p q) xs ys f g)

-- sums of numbers within the limit of products stay within that of turns
pub sum_small : (xs ys zs : List ℤ) → Each1 (IsBounded product_limit) xs → Each1 (IsBounded product_limit) ys → zs ≡ zip2 ◌+ℤ◌ xs ys
    → Each1 (IsBounded turn_limit) zs
sum_small xs ys zs f g e =
    subst (Each1 (IsBounded turn_limit)) (sym e) (each_zip ◌+ℤ◌ (IsBounded product_limit) (IsBounded product_limit) (IsBounded turn_limit)
    (λ x y p q. abs_add x y product_limit product_limit p q) xs ys f g)

-- ---- signs
negated_sign : (x : ℤ) → is_not_negative (pos 0 -ℤ x) ≡ int_le x (pos 0)
negated_sign (pos zero) = refl
negated_sign (pos (suc n)) = grind (arith, ints)
negated_sign (negsuc n) = grind (arith, ints)

-- numbers with their signs changed say where f is at most 0
pub signs_of_negated : (f : Position → ℤ) (vs : List Position) (xs ys : List ℤ) → xs ≡ map f vs → ys ≡ map (λ x. pos 0 -ℤ x) xs
    → map is_not_negative ys ≡ map (λ p. int_le (f p) (pos 0)) vs
signs_of_negated f vs xs ys e h =
    ap (map is_not_negative) (h ∙ ap (map (λ x. pos 0 -ℤ x)) e ∙ map-map (λ x. pos 0 -ℤ x) f vs)
    ∙ map-map is_not_negative (λ p. pos 0 -ℤ f p) vs
    ∙ map_same (λ p. is_not_negative (pos 0 -ℤ f p)) (λ p. int_le (f p) (pos 0)) (λ p. negated_sign (f p)) vs

-- numbers say where f is not negative
pub signs_of_map : (f : Position → ℤ) (vs : List Position) (xs : List ℤ) → xs ≡ map f vs → map is_not_negative xs ≡ map (λ p. is_not_negative (f p)) vs
signs_of_map f vs xs e = ap (map is_not_negative) e ∙ map-map is_not_negative f vs

-- margins joined, where each says a test
pub both_signs : (f g : Position → Bool) (vs : List Position) (xs ys zs : List ℤ) → map is_not_negative xs ≡ map f vs → map is_not_negative ys ≡ map g vs
    → map is_not_negative zs ≡ zip2 ◌&&◌ (map is_not_negative xs) (map is_not_negative ys) → map is_not_negative zs ≡ map (λ p. f p && g p) vs
both_signs f g vs xs ys zs hx hy e = e ∙ ap (λ l. zip2 ◌&&◌ l (map is_not_negative ys)) hx ∙ ap (zip2 ◌&&◌ (map f vs)) hy ∙ zip2-map ◌&&◌ f g vs

naught_signs : (x : ℤ) → (int_le x (pos 0) && is_not_negative x) ≡ int_eq x (pos 0)
naught_signs (pos zero) = refl
naught_signs (pos (suc n)) = grind (arith, ints)
naught_signs (negsuc n) = grind (arith, ints)

-- margins joined from turns and scalar products are not negative exactly where a point is on the segment from a to b
pub segment_signs : (a b : Position) (vs : List Position) (t f nt nf m z : List ℤ) → t ≡ map (turn a b) vs → f ≡ map (λ q. scalar_product q a b) vs
    → nt ≡ map (λ x. pos 0 -ℤ x) t → nf ≡ map (λ x. pos 0 -ℤ x) f
    → map is_not_negative m ≡ zip2 ◌&&◌ (map is_not_negative nt) (map is_not_negative t)
    → map is_not_negative z ≡ zip2 ◌&&◌ (map is_not_negative m) (map is_not_negative nf)
    → map is_not_negative z ≡ map (λ q. is_on_segment q a b) vs
segment_signs a b vs t f nt nf m z ht hf hnt hnf hm hz =
    let straight = both_signs (λ q. int_le (turn a b q) (pos 0)) (λ q. is_not_negative (turn a b q)) vs nt t m (signs_of_negated (turn a b) vs t nt ht hnt)
    (signs_of_map (turn a b) vs t ht) hm in
    both_signs (λ q. int_le (turn a b q) (pos 0) && is_not_negative (turn a b q)) (λ q. int_le (scalar_product q a b) (pos 0)) vs m nf z straight
    (signs_of_negated (λ q. scalar_product q a b) vs f nf hf hnf) hz
    ∙ map_same (λ q. (int_le (turn a b q) (pos 0) && is_not_negative (turn a b q)) && int_le (scalar_product q a b) (pos 0)) (λ q. is_on_segment q a b)
    (λ q. ap (λ s. s && int_le (scalar_product q a b) (pos 0)) (naught_signs (turn a b q))) vs
