-- How large differences, products and turns of coordinates get. All bounds are over `coordinate_limit`.
use Rattle.std.proofs.Common.{◌≡◌, ℤ, ◌-ℤ◌, ◌*ℤ◌, ◌≤◌, w64, lit<, unsigned_abs, FitsSigned}
use mir.Val.{to_z, of_z}
use Rattle.std.proofs.lemmas.Int.{to_z-of_z}
use Rattle.range_lemmas.proofs.Sizes.{abs_add, abs_difference, abs_mul, abs_sub, difference_kept, fits_from_size, kept}
use Rattle.range_plane.specs.Plane.{Position, IsCoordinate, IsWithinLimits, coordinate_limit, product_limit, turn_limit, turn}
use Rattle.range_plane.specs.ConvexCover.{scalar_product}

-- how large a product of two differences of coordinates may be
pub abs_product : (a b c d : ℤ) → IsCoordinate a → IsCoordinate b → IsCoordinate c → IsCoordinate d → unsigned_abs ((a -ℤ b) *ℤ (c -ℤ d)) ≤ product_limit
abs_product a b c d fa fb fc fd =
    abs_mul (a -ℤ b) (c -ℤ d) coordinate_limit coordinate_limit (abs_difference coordinate_limit a b fa fb) (abs_difference coordinate_limit c d fc fd)

-- how large a turn of points within the limits may be
pub abs_turn : (a b c : Position) → IsWithinLimits a → IsWithinLimits b → IsWithinLimits c → unsigned_abs (turn a b c) ≤ turn_limit
unfolding turn
abs_turn a b c fa fb fc =
    abs_sub ((b.e -ℤ a.e) *ℤ (c.n -ℤ a.n)) ((b.n -ℤ a.n) *ℤ (c.e -ℤ a.e)) product_limit product_limit
    (abs_product b.e a.e c.n a.n fb.0 fa.0 fc.1 fa.1)
    (abs_product b.n a.n c.e a.e fb.1 fa.1 fc.0 fa.0)

pub abs_scalar_product : (q a b : Position) → IsWithinLimits q → IsWithinLimits a → IsWithinLimits b → unsigned_abs (scalar_product q a b) ≤ turn_limit
unfolding scalar_product
abs_scalar_product q a b fq fa fb =
    abs_add ((a.e -ℤ q.e) *ℤ (b.e -ℤ q.e)) ((a.n -ℤ q.n) *ℤ (b.n -ℤ q.n)) product_limit product_limit
    (abs_product a.e q.e b.e q.e fa.0 fq.0 fb.0 fq.0)
    (abs_product a.n q.n b.n q.n fa.1 fq.1 fb.1 fq.1)

-- ---- what code over i64 computes of them
-- 64 bits hold a coordinate as it is
pub coordinate_is : (x : ℤ) → IsCoordinate x → to_z w64 (of_z w64 x) ≡ x
coordinate_is x f = kept coordinate_limit (lit< tt) x f

-- what code over 64 bits computes is the difference itself
pub difference_is : (x y : ℤ) → IsCoordinate x → IsCoordinate y → to_z w64 (of_z w64 (to_z w64 (of_z w64 x) -ℤ to_z w64 (of_z w64 y))) ≡ x -ℤ y
difference_is x y f g = difference_kept coordinate_limit (lit< tt) x y f g

-- a number no larger than a product of two differences may be fits 64 bits
pub product_fits : (z : ℤ) → unsigned_abs z ≤ product_limit → FitsSigned w64 z
product_fits z h = fits_from_size product_limit (lit< tt) z h

-- so it is with a product
pub product_is : (x y : ℤ) → unsigned_abs (x *ℤ y) ≤ product_limit → to_z w64 (of_z w64 (x *ℤ y)) ≡ x *ℤ y
product_is x y h = to_z-of_z w64 (x *ℤ y) (product_fits (x *ℤ y) h)

-- a turn of points within the limits fits 64 bits
pub turn_fits : (a b c : Position) → IsWithinLimits a → IsWithinLimits b → IsWithinLimits c → FitsSigned w64 (turn a b c)
turn_fits a b c fa fb fc = fits_from_size turn_limit (lit< tt) (turn a b c) (abs_turn a b c fa fb fc)

-- so does their scalar product
pub scalar_product_fits : (q a b : Position) → IsWithinLimits q → IsWithinLimits a → IsWithinLimits b → FitsSigned w64 (scalar_product q a b)
scalar_product_fits q a b fq fa fb = fits_from_size turn_limit (lit< tt) (scalar_product q a b) (abs_scalar_product q a b fq fa fb)
