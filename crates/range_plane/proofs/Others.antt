-- Tests over the members other than one, by tests that pass it over.
use Rattle.std.proofs.Common.{◌≡◌, refl, sym, ap, Bool, true, false, cond, List, [], ◌∷◌, ◌&&◌, ◌||◌, not}
use Rattle.std.specs.List.{list_any}
use Rattle.range_plane.specs.ConvexCover.{is_covered, is_in_triangle, is_on_segment}
use Rattle.range_plane.specs.Plane.{Position}
use Rattle.range_plane.specs.Polygon.{any_other, same_position, without}

pub any_without : (f : Position → Bool) (q : Position) (S : List Position) → any_other q f S ≡ list_any f (without q S)
any_without f q [] = refl
any_without f q (s ∷ S) = by (same_position s q) (any_without f q S)
  where
    by : (t : Bool) → any_other q f S ≡ list_any f (without q S) → ((not t && f s) || any_other q f S) ≡ list_any f (cond t (without q S) (s ∷ without q S))
    by true e = e
    by false e = ap (λ (b : Bool). f s || b) e

-- the test whether the others cover q
pub covered_without : (q : Position) (S : List Position)
    → is_covered (without q S) q
    ≡ (any_other q (λ a. any_other q (λ b. is_on_segment q a b) S) S
    || any_other q (λ a. any_other q (λ b. any_other q (λ c. is_in_triangle q a b c) S) S) S)
unfolding is_covered
covered_without q S = sym (simp any_without)
