-- Sums over lanes.
use Rattle.std.proofs.Common.{◌≡◌, ℕ, ◌+◌, ◌*◌, ◌≤◌, ℤ, pos, negsuc, ◌+ℤ◌, ◌≤ℤ◌, List, [], ◌∷◌, ◌++◌, length, take, drop, fold, refl, ap, ◌∙◌, sym, arith, lit<}
use Rattle.std.proofs.Common.{FitsSigned, Fits, to_z, of_z, w64, length-drop}
use lib.Dec.{T}
use lib.IntN.{nat_abs}
use lib.Signed.{non_neg}
use lib.Lanes.{zip2, Each1, chunk}
use Rattle.std.proofs.Math.Nat.{suc_inj}
use Rattle.std.specs.List.{All}
use Rattle.std.proofs.lemmas.Int.{ints, to_z-of_z}
use Rattle.std.proofs.lemmas.List.Sums.{fold-append}
use Rattle.std.proofs.lemmas.List.{take-append-drop, length-take}
use Rattle.std.proofs.lemmas.List.Elements.{All-head, All-tail, All-take, All-drop}
use Rattle.std.proofs.lemmas.Simd.{Each1-chunk, Each1-weaker}
use Rattle.std.proofs.Math.Seq.{take-add}
use Rattle.range_plane.specs.Plane.{IsCoordinate, coordinate_limit, turn_limit}
use Rattle.range_lemmas.proofs.Sizes.{abs_le, fits_from_size}
use Rattle.range_plane.specs.Fix.{fix_limit}
use Rattle.range_lanes.specs.Lanes.{IsBounded}
use Rattle.range_lanes.specs.Totals.{IsSumOf, total}
use Rattle.range_lanes.proofs.Signed.{coordinate_within, each_from_all}

fold_shift : (a : ℤ) (xs : List ℤ) → fold ◌+ℤ◌ a xs ≡ a +ℤ total xs
fold_shift a [] = omega (arith, ints)
fold_shift a (x ∷ xs) = omega (arith, ints, fold_shift (a +ℤ x) xs, fold_shift (pos 0 +ℤ x) xs)

pub sum_cons : (x : ℤ) (xs : List ℤ) → total (x ∷ xs) ≡ x +ℤ total xs
sum_cons x xs = omega (arith, ints, fold_shift (pos 0 +ℤ x) xs)

pub sum_append : (xs ys : List ℤ) → total (xs ++ ys) ≡ total xs +ℤ total ys
sum_append xs ys = fold-append ◌+ℤ◌ (pos 0) xs ys ∙ fold_shift (total xs) ys

pub sum_zip : (xs ys : List ℤ) → length xs ≡ length ys → total (zip2 ◌+ℤ◌ xs ys) ≡ total xs +ℤ total ys
sum_zip [] [] h = refl
sum_zip [] (y ∷ ys) h = cc
sum_zip (x ∷ xs) [] h = cc
sum_zip (x ∷ xs) (y ∷ ys) h =
    omega (arith, ints, sum_cons (x +ℤ y) (zip2 ◌+ℤ◌ xs ys), sum_cons x xs, sum_cons y ys, sum_zip xs ys (suc_inj h))

-- one more group of eight
pub sum_more : (xs lanes : List ℤ) (at : ℕ) → length lanes ≡ length (chunk at 8 xs) → total lanes ≡ total (take at xs)
    → total (zip2 ◌+ℤ◌ lanes (chunk at 8 xs)) ≡ total (take (at + 8) xs)
sum_more xs lanes at same e =
    sum_zip lanes (chunk at 8 xs) same ∙ ap (λ s. s +ℤ total (chunk at 8 xs)) e ∙ sym (sum_append (take at xs) (chunk at 8 xs))
    ∙ ap total (sym (take-add at 8 xs))

-- the size of a sum of coordinates
pub sum_bounds : (xs : List ℤ) → All IsCoordinate xs → IsSumOf (length xs) (total xs)
sum_bounds [] h = (omega (arith, ints), omega (arith, ints))
sum_bounds (x ∷ xs) h =
    let first = All-head IsCoordinate x xs h in
    let rest = sum_bounds xs (All-tail IsCoordinate x xs h) in
    let e = sum_cons x xs in
    (omega (arith, ints), omega (arith, ints))

pub sum_parts : (n : ℕ) (xs : List ℤ) → total (take n xs) +ℤ total (drop n xs) ≡ total xs
sum_parts n xs = sym (sum_append (take n xs) (drop n xs)) ∙ ap total (take-append-drop n xs)

-- a group of coordinates, lane by lane
pub group_within : (xs : List ℤ) (at : ℕ) → All IsCoordinate xs → Each1 (IsBounded turn_limit) (chunk at 8 xs)
group_within xs at h =
    Each1-chunk (IsBounded turn_limit) at 8 xs (Each1-weaker IsCoordinate (IsBounded turn_limit) (λ x f. let g = coordinate_within x f in omega arith) xs
    (each_from_all IsCoordinate xs h))

pub few_fit : (n : ℕ) (x : ℤ) → n ≤ fix_limit → IsSumOf n x → FitsSigned w64 x
few_fit n x few h =
    let bound : n * coordinate_limit ≤ fix_limit * coordinate_limit = omega arith in
    fits_from_size turn_limit (lit< tt) x (abs_le x turn_limit (omega (arith, ints)) (omega (arith, ints)))

-- the two parts of a sum, as code over i64 adds them and casts the result
pub total_is : (n : ℕ) (xs : List ℤ) (a b : ℤ) → length xs ≤ fix_limit → All IsCoordinate xs → a ≡ total (take n xs) → b ≡ total (drop n xs)
    → to_z w64 (of_z w64 a) +ℤ to_z w64 (of_z w64 b) ≡ total xs
total_is n xs a b few h ea eb =
    let fa = few_fit (length (take n xs)) (total (take n xs)) (omega (arith, length-take {A = ℤ})) (sum_bounds (take n xs) (All-take IsCoordinate n xs h)) in
    let fb = few_fit (length (drop n xs)) (total (drop n xs)) (omega (arith, length-drop {A = ℤ})) (sum_bounds (drop n xs) (All-drop IsCoordinate n xs h)) in
    rw (ea, eb, to_z-of_z w64 (total (take n xs)) fa, to_z-of_z w64 (total (drop n xs)) fb) (sum_parts n xs)

cast_back : (z : ℤ) → pos 0 ≤ℤ z → pos (nat_abs z) ≡ z
cast_back (pos n) h = refl
cast_back (negsuc n) h = absurd (omega (arith, ints))

cast_asks : (z : ℤ) → pos 0 ≤ℤ z → FitsSigned w64 z → T (non_neg z) × Fits w64 (nat_abs z)
cast_asks (pos n) h f = (tt, record { fits = omega (arith, f.sfits) })
cast_asks (negsuc n) h f = absurd (omega (arith, ints))

-- the sum of coordinates fits 64 bits, where there are at most as many as fixes may be
pub total_fits : (xs : List ℤ) → length xs ≤ fix_limit → All IsCoordinate xs → FitsSigned w64 (total xs)
total_fits xs few h = few_fit (length xs) (total xs) few (sum_bounds xs h)

-- what a cast of the sum to an unsigned number requires
pub total_asks : (xs : List ℤ) → length xs ≤ fix_limit → All IsCoordinate xs → T (non_neg (to_z w64 (of_z w64 (total xs))))
    × Fits w64 (nat_abs (to_z w64 (of_z w64 (total xs))))
total_asks xs few h = rw (to_z-of_z w64 (total xs) (total_fits xs few h)) (cast_asks (total xs) (sum_bounds xs h).0 (total_fits xs few h))

-- the cast gives the sum itself
pub total_back : (xs : List ℤ) → length xs ≤ fix_limit → All IsCoordinate xs → pos (nat_abs (to_z w64 (of_z w64 (total xs)))) ≡ total xs
total_back xs few h = rw (to_z-of_z w64 (total xs) (total_fits xs few h)) (cast_back (total xs) (sum_bounds xs h).0)

-- each coordinate is a sum of one coordinate
pub group_sums : (xs : List ℤ) (at : ℕ) → All IsCoordinate xs → Each1 (IsSumOf 1) (chunk at 8 xs)
group_sums xs at h =
    Each1-chunk (IsSumOf 1) at 8 xs (Each1-weaker IsCoordinate (IsSumOf 1) (λ x f. (f.0, f.1)) xs (each_from_all IsCoordinate xs h))

-- with one coordinate more, a sum as large as n coordinates may make is one as large as n + 1 may make
pub sum_step : (n : ℕ) (x y : ℤ) → IsSumOf n x → IsSumOf 1 y → IsSumOf (n + 1) (x +ℤ y)
sum_step n x y f g = (omega (arith, ints), omega (arith, ints))
