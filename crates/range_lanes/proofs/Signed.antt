-- Lanes of signed numbers, as the vector operations keep them: each by its bits.
use Rattle.std.proofs.Common.{◌≡◌, ℕ, ◌+◌, ◌<◌, ℤ, ◌+ℤ◌, ◌-ℤ◌, ◌*ℤ◌, List, [], ◌∷◌, map, refl, ap, ◌∙◌, sym, arith, w32, w64, lit<, FitsSigned, to_z, of_z}
use Rattle.std.proofs.Common.{cond, Bool, true, false, ◌&&◌, ◌^◌, bit_or, ltb}
use lib.Lanes.{zip2, Each1, Each2, sel_l, top}
use lib.Signed.{lt_z}
use Rattle.std.specs.Int.{int_min, int_max, int_bit_or}
use Rattle.range_plane.specs.Plane.{IsCoordinate, coordinate_limit, product_limit, turn_limit}
use Rattle.range_lemmas.proofs.Sizes.{abs_add, abs_mul, abs_sub, abs_up_to, fits_from_size}
use Rattle.range_lanes.specs.Lanes.{IsBounded, AreLanes, is_not_negative}
use Rattle.std.specs.List.{All}
use Rattle.std.proofs.lemmas.List.Elements.{All-head, All-tail}
use Rattle.std.proofs.lemmas.Simd.{Each1-weaker, length-zip2}
use Rattle.std.proofs.Math.Facts.{Fits-of_z, Fits-or, sfits_to_z}
use Rattle.std.proofs.lemmas.Nat.{le_or_l, le_or_r, or_lt}
use Rattle.std.proofs.lemmas.Int.{to_z-of_z, ints, fits_signed_from_abs}

-- the bits read back are the lanes
pub read_back : (xs : List ℤ) → Each1 (FitsSigned w64) xs → map (to_z w64) (map (of_z w64) xs) ≡ xs
read_back [] h = refl
read_back (x ∷ xs) h = ap (λ y. y ∷ map (to_z w64) (map (of_z w64) xs)) (to_z-of_z w64 x h.0) ∙ ap (λ l. x ∷ l) (read_back xs h.1)

-- an operation g on bits that is f on the numbers, of two vectors
pub lanes_are : (f : ℤ → ℤ → ℤ) (g : ℕ → ℕ → ℕ) (P Q : ℤ → Type 0) → ((x y : ℤ) → P x → Q y → to_z w64 (g (of_z w64 x) (of_z w64 y)) ≡ f x y)
    → (xs ys : List ℤ) → Each1 P xs → Each1 Q ys → map (to_z w64) (zip2 g (map (of_z w64) xs) (map (of_z w64) ys)) ≡ zip2 f xs ys
lanes_are f g P Q s [] ys p q = refl
lanes_are f g P Q s (x ∷ xs) [] p q = refl
lanes_are f g P Q s (x ∷ xs) (y ∷ ys) p q =
    ap (λ z. z ∷ map (to_z w64) (zip2 g (map (of_z w64) xs) (map (of_z w64) ys))) (s x y p.0 q.0)
    ∙ ap (λ l. f x y ∷ l) (lanes_are f g P Q s xs ys p.1 q.1)

-- what such an operation asks of each two lanes
pub lanes_ask : (R : ℕ → ℕ → Type 0) (P Q : ℤ → Type 0) → ((x y : ℤ) → P x → Q y → R (of_z w64 x) (of_z w64 y))
    → (xs ys : List ℤ) → Each1 P xs → Each1 Q ys → Each2 R (map (of_z w64) xs) (map (of_z w64) ys)
lanes_ask R P Q s [] ys p q = tt
lanes_ask R P Q s (x ∷ xs) [] p q = tt
lanes_ask R P Q s (x ∷ xs) (y ∷ ys) p q = (s x y p.0 q.0, lanes_ask R P Q s xs ys p.1 q.1)

-- ---- a choice by a comparison
min_same : (x y : ℤ) → cond (lt_z x y) x y ≡ int_min x y
min_same x y = grind (arith, ints)

max_same : (x y : ℤ) → cond (lt_z x y) y x ≡ int_max x y
max_same x y = grind (arith, ints)

top_of_mask : (t : Bool) → top 63 (cond t 18446744073709551615 0) ≡ t
top_of_mask true = refl
top_of_mask false = refl

-- ---- what is true of each lane of a result
-- what is true of every two lanes' result is true of each lane of the whole result
pub each_zip : (f : ℤ → ℤ → ℤ) (P Q R : ℤ → Type 0) → ((x y : ℤ) → P x → Q y → R (f x y)) → (xs ys : List ℤ) → Each1 P xs → Each1 Q ys → Each1 R (zip2 f xs ys)
each_zip f P Q R s [] ys p q = tt
each_zip f P Q R s (x ∷ xs) [] p q = tt
each_zip f P Q R s (x ∷ xs) (y ∷ ys) p q = (s x y p.0 q.0, each_zip f P Q R s xs ys p.1 q.1)

-- an operation whose results fit 64 bits gives lanes
pub lanes_from_each : (f : ℤ → ℤ → ℤ) (P Q : ℤ → Type 0) → ((x y : ℤ) → P x → Q y → FitsSigned w64 (f x y)) → (xs ys : List ℤ) → AreLanes xs → AreLanes ys
    → Each1 P xs → Each1 Q ys → AreLanes (zip2 f xs ys)
lanes_from_each f P Q s xs ys a b p q =
    (length-zip2 f xs ys (a.0 ∙ sym b.0) ∙ a.0, each_zip f P Q (FitsSigned w64) s xs ys p q)

-- ---- operations whose results fit 64 bits, at numbers of at most the size k
pub record Exact (f : ℤ → ℤ → ℤ) (k : ℕ) : Type 0 where
  small : (x : ℤ) → IsBounded k x → FitsSigned w64 x
  fits : (x y : ℤ) → IsBounded k x → IsBounded k y → FitsSigned w64 (f x y)

-- sums of numbers up to the size of a turn fit 64 bits
pub exact_sum : Exact ◌+ℤ◌ turn_limit
exact_sum = record {
  small = fits_from_size turn_limit (lit< tt);
  fits = λ x y p q. fits_from_size (turn_limit + turn_limit) (lit< tt) (x +ℤ y) (abs_add x y turn_limit turn_limit p q);
}

-- differences of numbers up to the size of a turn fit 64 bits
pub exact_difference : Exact ◌-ℤ◌ turn_limit
exact_difference = record {
  small = fits_from_size turn_limit (lit< tt);
  fits = λ x y p q. fits_from_size (turn_limit + turn_limit) (lit< tt) (x -ℤ y) (abs_sub x y turn_limit turn_limit p q);
}

coordinate_size_fits : (x : ℤ) → IsBounded coordinate_limit x → FitsSigned w64 x
coordinate_size_fits x h = fits_from_size coordinate_limit (lit< tt) x h

-- products of numbers up to the size of a coordinate fit 64 bits
pub exact_product : Exact ◌*ℤ◌ coordinate_limit
exact_product = record {
  small = coordinate_size_fits;
  fits = λ x y p q. fits_from_size product_limit (lit< tt) (x *ℤ y) (abs_mul x y coordinate_limit coordinate_limit p q);
}

module _ (f : ℤ → ℤ → ℤ) (k : ℕ) (exact : Exact f k) (xs ys : List ℤ) (p : Each1 (IsBounded k) xs) (q : Each1 (IsBounded k) ys) where
  -- what the vector operation requires, what it gives, and that this is lanes
  pub exact_asks : Each2 (λ a b. FitsSigned w64 (f (to_z w64 a) (to_z w64 b))) (map (of_z w64) xs) (map (of_z w64) ys)
  exact_asks =
      lanes_ask _ (IsBounded k) (IsBounded k) (λ x y p q. rw (to_z-of_z w64 x (exact.small x p), to_z-of_z w64 y (exact.small y q))
      (exact.fits x y p q)) xs ys p q

  -- the bits that the vector operation gives are read as the results on the numbers
  pub exact_are : map (to_z w64) (zip2 (λ a b. of_z w64 (f (to_z w64 a) (to_z w64 b))) (map (of_z w64) xs) (map (of_z w64) ys)) ≡ zip2 f xs ys
  exact_are =
      lanes_are f _ (IsBounded k) (IsBounded k) (λ x y p q. rw (to_z-of_z w64 x (exact.small x p), to_z-of_z w64 y (exact.small y q))
      (to_z-of_z w64 (f x y) (exact.fits x y p q))) xs ys p q

  -- the results on lanes are lanes
  pub exact_lanes : AreLanes xs → AreLanes ys → AreLanes (zip2 f xs ys)
  exact_lanes a b = lanes_from_each f (IsBounded k) (IsBounded k) exact.fits xs ys a b p q

-- the size of a coordinate is at most the coordinate limit
pub coordinate_within : (x : ℤ) → IsCoordinate x → IsBounded coordinate_limit x
coordinate_within x f = abs_up_to coordinate_limit x f

coordinate_fits : (x : ℤ) → IsCoordinate x → FitsSigned w64 x
coordinate_fits x h = coordinate_size_fits x (coordinate_within x h)

-- `All` of a list, lane by lane
pub each_from_all : (P : ℤ → Type 0) (xs : List ℤ) → All P xs → Each1 P xs
each_from_all P [] h = tt
each_from_all P (x ∷ xs) h = (All-head P x xs h, each_from_all P xs (All-tail P x xs h))

-- each of a list of coordinates fits 64 bits
pub each_fits : (xs : List ℤ) → All IsCoordinate xs → Each1 (FitsSigned w64) xs
each_fits xs h = Each1-weaker IsCoordinate (FitsSigned w64) coordinate_fits xs (each_from_all IsCoordinate xs h)

-- a choice by a mask, lane by lane
pub select_is : (m : ℕ → ℕ → ℕ) (xs ys : List ℕ) → sel_l (map (top 63) (zip2 m xs ys)) xs ys ≡ zip2 (λ a b. cond (top 63 (m a b)) a b) xs ys
select_is m [] ys = refl
select_is m (x ∷ xs) [] = refl
select_is m (x ∷ xs) (y ∷ ys) = ap (λ l. cond (top 63 (m x y)) x y ∷ l) (select_is m xs ys)

-- the same with the choices exchanged
pub select_swapped_is : (m : ℕ → ℕ → ℕ) (xs ys : List ℕ) → sel_l (map (top 63) (zip2 m xs ys)) ys xs ≡ zip2 (λ a b. cond (top 63 (m a b)) b a) xs ys
select_swapped_is m [] ys = refl
select_swapped_is m (x ∷ xs) [] = refl
select_swapped_is m (x ∷ xs) (y ∷ ys) = ap (λ l. cond (top 63 (m x y)) y x ∷ l) (select_swapped_is m xs ys)

chosen : (t : Bool) (x y : ℤ) → FitsSigned w64 x → FitsSigned w64 y → to_z w64 (cond t (of_z w64 x) (of_z w64 y)) ≡ cond t x y
chosen true x y f g = to_z-of_z w64 x f
chosen false x y f g = to_z-of_z w64 y g

-- all bits set where a is less than b, as signed numbers
abbrev pub less_mask : ℕ → ℕ → ℕ
less_mask a b = cond (lt_z (to_z w64 a) (to_z w64 b)) 18446744073709551615 0

-- a choice by this mask is the smaller number
pub min_is : (x y : ℤ) → FitsSigned w64 x → FitsSigned w64 y → to_z w64
    (cond (top 63 (less_mask (of_z w64 x) (of_z w64 y))) (of_z w64 x) (of_z w64 y)) ≡ int_min x y
min_is x y fx fy =
    ap (λ t. to_z w64 (cond t (of_z w64 x) (of_z w64 y))) (top_of_mask (lt_z (to_z w64 (of_z w64 x)) (to_z w64 (of_z w64 y))))
    ∙ chosen (lt_z (to_z w64 (of_z w64 x)) (to_z w64 (of_z w64 y))) x y fx fy
    ∙ ap (λ a. cond (lt_z a (to_z w64 (of_z w64 y))) x y) (to_z-of_z w64 x fx)
    ∙ ap (λ b. cond (lt_z x b) x y) (to_z-of_z w64 y fy)
    ∙ min_same x y

-- the other choice is the greater number
pub max_is : (x y : ℤ) → FitsSigned w64 x → FitsSigned w64 y → to_z w64
    (cond (top 63 (less_mask (of_z w64 x) (of_z w64 y))) (of_z w64 y) (of_z w64 x)) ≡ int_max x y
max_is x y fx fy =
    ap (λ t. to_z w64 (cond t (of_z w64 y) (of_z w64 x))) (top_of_mask (lt_z (to_z w64 (of_z w64 x)) (to_z w64 (of_z w64 y))))
    ∙ chosen (lt_z (to_z w64 (of_z w64 x)) (to_z w64 (of_z w64 y))) y x fy fx
    ∙ ap (λ a. cond (lt_z a (to_z w64 (of_z w64 y))) y x) (to_z-of_z w64 x fx)
    ∙ ap (λ b. cond (lt_z x b) y x) (to_z-of_z w64 y fy)
    ∙ max_same x y

either_fits : (t : Bool) (x y : ℤ) → FitsSigned w64 x → FitsSigned w64 y → FitsSigned w64 (cond t x y)
either_fits true x y f g = f
either_fits false x y f g = g

-- the smaller of two numbers that fit 64 bits fits them too
pub min_fits : (x y : ℤ) → FitsSigned w64 x → FitsSigned w64 y → FitsSigned w64 (int_min x y)
min_fits x y f g = either_fits (lt_z y x) y x g f

-- the greater of two numbers that fit 64 bits fits them too
pub max_fits : (x y : ℤ) → FitsSigned w64 x → FitsSigned w64 y → FitsSigned w64 (int_max x y)
max_fits x y f g = either_fits (lt_z y x) x y f g

-- a bitwise or
pub or_fits : (x y : ℤ) → FitsSigned w64 x → FitsSigned w64 y → FitsSigned w64 (int_bit_or w64 x y)
or_fits x y f g = sfits_to_z (Fits-or (Fits-of_z f) (Fits-of_z g))

-- the sign of a number that is read from bits
sign_of_bits : (n : ℕ) → is_not_negative (to_z w64 n) ≡ ltb n (2 ^ 63)
sign_of_bits n = grind (arith, ints)

or_below_half : (a b : ℕ) → ltb (bit_or a b) (2 ^ 63) ≡ (ltb a (2 ^ 63) && ltb b (2 ^ 63))
or_below_half a b = grind (arith, or_lt 63 a b, le_or_l a b, le_or_r a b)

or_sign : (x y : ℤ) → FitsSigned w64 x → FitsSigned w64 y → is_not_negative (int_bit_or w64 x y) ≡ (is_not_negative x && is_not_negative y)
or_sign x y f g =
    let sign_kept : (z : ℤ) → FitsSigned w64 z → ltb (of_z w64 z) (2 ^ 63) ≡ is_not_negative z =
    λ z h. sym (sign_of_bits (of_z w64 z)) ∙ ap is_not_negative (to_z-of_z w64 z h) in
    sign_of_bits (bit_or (of_z w64 x) (of_z w64 y)) ∙ or_below_half (of_z w64 x) (of_z w64 y)
    ∙ ap (λ s. s && ltb (of_z w64 y) (2 ^ 63)) (sign_kept x f) ∙ ap (λ s. is_not_negative x && s) (sign_kept y g)

-- a bitwise or is negative exactly where one of the two is
pub signs_of_or : (xs ys : List ℤ) → Each1 (FitsSigned w64) xs → Each1 (FitsSigned w64) ys
    → map is_not_negative (zip2 (int_bit_or w64) xs ys) ≡ zip2 ◌&&◌ (map is_not_negative xs) (map is_not_negative ys)
signs_of_or [] ys p q = refl
signs_of_or (x ∷ xs) [] p q = refl
signs_of_or (x ∷ xs) (y ∷ ys) p q =
    ap (λ b. b ∷ map is_not_negative (zip2 (int_bit_or w64) xs ys)) (or_sign x y p.0 q.0)
    ∙ ap (λ l. (is_not_negative x && is_not_negative y) ∷ l) (signs_of_or xs ys p.1 q.1)

-- an or on bits, lane by lane
pub or_is : (xs ys : List ℤ) → Each1 (FitsSigned w64) xs → Each1 (FitsSigned w64) ys
    → map (to_z w64) (zip2 bit_or (map (of_z w64) xs) (map (of_z w64) ys)) ≡ zip2 (int_bit_or w64) xs ys
or_is xs ys p q = lanes_are (int_bit_or w64) bit_or (FitsSigned w64) (FitsSigned w64) (λ x y p q. refl) xs ys p q

-- ---- through 32 bits and back
narrow_fits : (x : ℤ) → IsBounded coordinate_limit x → FitsSigned w32 x
narrow_fits x h =
    let room : coordinate_limit < 2147483648 = lit< tt in fits_signed_from_abs w32 x (omega arith)

-- each of the numbers fits 32 bits
pub narrow_asks : (xs : List ℤ) → Each1 (IsBounded coordinate_limit) xs → Each1 (λ b. FitsSigned w32 (to_z w64 b)) (map (of_z w64) xs)
narrow_asks [] h = tt
narrow_asks (x ∷ xs) h =
    (rw (to_z-of_z w64 x (coordinate_size_fits x h.0)) (narrow_fits x h.0), narrow_asks xs h.1)

-- each of the numbers, read from its 32 bits, fits 64 bits
pub widen_asks : (xs : List ℤ) → Each1 (IsBounded coordinate_limit) xs
    → Each1 (λ b. FitsSigned w64 (to_z w32 b)) (map (λ b. of_z w32 (to_z w64 b)) (map (of_z w64) xs))
widen_asks [] h = tt
widen_asks (x ∷ xs) h =
    (rw (to_z-of_z w64 x (coordinate_size_fits x h.0), to_z-of_z w32 x (narrow_fits x h.0)) (coordinate_size_fits x h.0), widen_asks xs h.1)

-- through 32 bits and back they stay the same
pub narrow_is : (xs : List ℤ) → Each1 (IsBounded coordinate_limit) xs
    → map (to_z w64) (map (λ b. of_z w64 (to_z w32 b)) (map (λ b. of_z w32 (to_z w64 b)) (map (of_z w64) xs))) ≡ xs
narrow_is [] h = refl
narrow_is (x ∷ xs) h =
    ap (λ l. to_z w64 (of_z w64 (to_z w32 (of_z w32 (to_z w64 (of_z w64 x))))) ∷ l) (narrow_is xs h.1)
    ∙ ap (λ y. y ∷ xs) (rw (to_z-of_z w64 x (coordinate_size_fits x h.0), to_z-of_z w32 x (narrow_fits x h.0)) (to_z-of_z w64 x (coordinate_size_fits x h.0)))
