-- The order of points by easting and then by northing is one of all points, and passes through points between.
use Rattle.std.proofs.Common.{◌≡◌, refl, sym, ◌∙◌, ◌⊎◌, inl, inr, arith}
use Rattle.std.proofs.lemmas.Int.{by_lt_z}
use Rattle.range_lemmas.proofs.Integers.{linear}
use Rattle.range_plane.specs.Plane.{Position, IsAtMost}

-- of two points one is not after the other
pub at_most_one_way : (a b : Position) → IsAtMost a b ⊎ IsAtMost b a
at_most_one_way a b =
    by_lt_z a.e b.e (λ h. inl (inl h))
    (λ h. by_lt_z b.e a.e (λ k. inr (inl k))
    (λ k. let e : a.e ≡ b.e = omega (arith, linear) in
    by_lt_z a.n b.n (λ m. inl (inr (e, omega (arith, linear)))) (λ m. inr (inr (sym e, m)))))

-- a point not after one that is not after c is not after c
pub through_most : (a b c : Position) → IsAtMost a b → IsAtMost b c → IsAtMost a c
through_most a b c (inl h) (inl k) = inl (omega (arith, linear))
through_most a b c (inl h) (inr k) = let e = k.0 in inl (omega (arith, linear))
through_most a b c (inr h) (inl k) = let e = h.0 in inl (omega (arith, linear))
through_most a b c (inr h) (inr k) = let p = h.1 in let q = k.1 in inr (h.0 ∙ k.0, omega (arith, linear))

-- no point is after itself
pub at_most_itself : (a : Position) → IsAtMost a a
at_most_itself a = inr (refl, omega (arith, linear))
