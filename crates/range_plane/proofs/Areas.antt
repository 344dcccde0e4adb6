-- The doubled area as a sum of triangles, and what a point that is put into a list of corners adds to it.
use Rattle.std.proofs.Common.{◌≡◌, refl, ℕ, zero, suc, ◌<◌, take, length, ℤ, pos, ◌+ℤ◌, ◌*ℤ◌, ◌≤ℤ◌, ◌<ℤ◌, List, [], ◌∷◌, AllPairs, arith}
use Rattle.std.specs.Prelude.{slice_index_or}
use Rattle.range_plane.specs.Plane.{Position, origin, turn}
use Rattle.range_plane.specs.Polygon.{TurnsLeft, shoelace, area2}
use Rattle.range_lemmas.proofs.Integers.{linear}
use Rattle.range_lemmas.proofs.Ring.{var, ◌⊕◌, ◌⊖◌, ◌⊗◌, ring}
use Rattle.range_plane.proofs.Vectors.{cross, cross_flip, cross_self, turn_self, turn_swap}
use Rattle.range_plane.proofs.Unique.{round_head}

-- the sum of the cross products of neighbours
unfoldable pub walk : List Position → ℤ
walk [] = pos 0
walk (a ∷ []) = pos 0
walk (a ∷ b ∷ L) = cross a b +ℤ walk (b ∷ L)

-- the sum of the triangles of p with each member and the next
unfoldable pub triangles : Position → List Position → ℤ
triangles p [] = pos 0
triangles p (a ∷ []) = pos 0
triangles p (a ∷ b ∷ L) = turn p a b +ℤ triangles p (b ∷ L)

abbrev pub last_of : Position → List Position → Position
last_of a [] = a
last_of a (b ∷ L) = last_of b L

turn_is_crosses : (p a b : Position) → turn p a b ≡ cross p a +ℤ cross a b +ℤ cross b p
unfolding turn cross
turn_is_crosses p a b =
    let x = var 0 in let x' = var 1 in let y = var 2 in let y' = var 3 in let z = var 4 in let z' = var 5 in
    ring (p.e ∷ p.n ∷ a.e ∷ a.n ∷ b.e ∷ b.n ∷ []) ((y ⊖ x) ⊗ (z' ⊖ x') ⊖ (y' ⊖ x') ⊗ (z ⊖ x)) ((x ⊗ y' ⊖ x' ⊗ y) ⊕ (y ⊗ z' ⊖ y' ⊗ z) ⊕ (z ⊗ x' ⊖ z' ⊗ x)) tt

-- the triangles from p make up the walk closed through p
pub triangles_walk : (p a : Position) (L : List Position) → triangles p (a ∷ L) ≡ cross p a +ℤ walk (a ∷ L) +ℤ cross (last_of a L) p
unfolding triangles walk
triangles_walk p a [] = omega (arith, linear, cross_flip p a)
triangles_walk p a (b ∷ L) = omega (arith, linear, triangles_walk p b L, turn_is_crosses p a b, cross_flip b p)

shoelace_walk : (first a : Position) (L : List Position) → shoelace first (a ∷ L) ≡ walk (a ∷ L) +ℤ cross (last_of a L) first
unfolding walk cross
shoelace_walk first a [] = omega (arith, linear, swapped first.e a.n)
  where
    swapped : (x y : ℤ) → x *ℤ y ≡ y *ℤ x
    swapped x y = ring (x ∷ y ∷ []) (var 0 ⊗ var 1) (var 1 ⊗ var 0) tt
shoelace_walk first a (b ∷ L) = omega (arith, linear, shoelace_walk first b L, swapped b.e a.n)
  where
    swapped : (x y : ℤ) → x *ℤ y ≡ y *ℤ x
    swapped x y = ring (x ∷ y ∷ []) (var 0 ⊗ var 1) (var 1 ⊗ var 0) tt

-- the doubled area is the closed walk, also below three corners
pub area2_walk : (a : Position) (L : List Position) → area2 (a ∷ L) ≡ walk (a ∷ L) +ℤ cross (last_of a L) a
unfolding walk
area2_walk a [] = omega (arith, linear, cross_self a)
area2_walk a (b ∷ []) = omega (arith, linear, cross_flip a b)
area2_walk a (b ∷ c ∷ L) = shoelace_walk a a (b ∷ c ∷ L)

-- and the triangles from the first corner
pub area2_triangles : (c : Position) (L : List Position) → area2 (c ∷ L) ≡ triangles c L
unfolding walk triangles
area2_triangles c [] = refl
area2_triangles c (a ∷ L) = omega (arith, linear, area2_walk c (a ∷ L), triangles_walk c a L)

-- ---- the triangles one after the other
-- the first two corners make no triangle
pub triangles_start : (L : List Position) → triangles (slice_index_or L 0 origin) (take 2 L) ≡ pos 0
unfolding triangles
triangles_start [] = refl
triangles_start (a ∷ []) = refl
triangles_start (a ∷ b ∷ L) = omega (arith, linear, turn_swap a a b, turn_self a b)

-- one more corner adds one triangle
pub triangles_more : (p : Position) (L : List Position) (k : ℕ) (d : Position) → suc k < length L
    → triangles p (take (suc (suc k)) L) ≡ triangles p (take (suc k) L) +ℤ turn p (slice_index_or L k d) (slice_index_or L (suc k) d)
unfolding triangles
triangles_more p [] k d h = absurd (omega arith)
triangles_more p (a ∷ []) k d h = absurd (omega arith)
triangles_more p (a ∷ b ∷ L) zero d h = omega (arith, linear)
triangles_more p (a ∷ b ∷ L) (suc k) d h = omega (arith, linear, triangles_more p (b ∷ L) k d (omega arith))

-- the doubled area is the sum of all triangles at the first corner
pub area2_all : (L : List Position) → area2 L ≡ triangles (slice_index_or L 0 origin) L
unfolding triangles
area2_all [] = refl
area2_all (a ∷ []) = refl
area2_all (a ∷ b ∷ L) = omega (arith, linear, area2_triangles a (b ∷ L), turn_swap a a b, turn_self a b)

triangles_nonneg : (c : Position) (L : List Position) → AllPairs (λ x y. pos 0 <ℤ turn c x y) L → pos 0 ≤ℤ triangles c L
unfolding triangles
triangles_nonneg c [] p = omega (arith, linear)
triangles_nonneg c (a ∷ []) p = omega (arith, linear)
triangles_nonneg c (a ∷ b ∷ L) p = omega (
  arith,
  linear,
  triangles_nonneg c (b ∷ L) (λ i j d h k. p (suc i) (suc j) d (omega arith) (omega arith)),
  p 0 1 c (omega arith) (omega arith),
)

-- where corners turn left the doubled area is not negative
pub area2_nonneg : (L : List Position) → TurnsLeft L → pos 0 ≤ℤ area2 L
area2_nonneg [] t = omega (arith, linear)
area2_nonneg (c ∷ L) t = omega (arith, linear, area2_triangles c L, triangles_nonneg c L (round_head c L t))
