use Rattle.std.proofs.Common.{◌≡◌, ℕ, zero, suc, ◌++◌, Bool, List, [], ◌∷◌, Some, false, true, map, get_or, slice_get, ap, subst, sym, ◌∙◌}
use Rattle.range_hull.specs.Hull.{Hull}
use Rattle.range_plane.specs.ConvexCover.{is_covered}
use Rattle.range_plane.specs.Plane.{Position}
use Rattle.range_plane.specs.Polygon.{IsPolygon}
use Rattle.range_stats.proofs.batches.add_batch.Goals as goal

-- a point whose flag is set
flag_of : (f : Position → Bool) (points : List Position) (i : ℕ) (p : Position) → get_or (map f points) i false ≡ true → slice_get points i ≡ Some p → f p ≡ true
flag_of f [] i p e found = cc found
flag_of f (q ∷ points) zero p e found = cc (e, found)
flag_of f (q ∷ points) (suc i) p e found = flag_of f points i p e found

pub add_flagged-requires-2-clause-flags : goal.add_flagged-requires-2-clause-flags
add_flagged-requires-2-clause-flags g c = λ i p flagged found.
    let flags = c.flags.ensures ∙ c.in_ok-flag.ensures.flags in
    flag_of (is_covered _) c.in_ok-batch.batch.points i p (ap (λ (l : List Bool). get_or l i false) (sym flags) ∙ flagged) found

pub returns-then-corner_count-gt-FLAGGED_CORNERS-clause-set : goal.returns-then-corner_count-gt-FLAGGED_CORNERS-clause-set
returns-then-corner_count-gt-FLAGGED_CORNERS-clause-set g c = λ S before.
    let same = sym (ap (λ (h : Hull). h.corners) c.in_ok-reserve.ensures.unchanged) in
    subst (λ (l : List Position). IsPolygon (l ++ S) c.add_flagged.new.hull.corners) c.in_ok-batch.ensures
    (c.add_flagged.ensures.set S (subst (IsPolygon S) same before))

pub returns-clause-set : goal.returns-clause-set
returns-clause-set g c = λ S before.
    let same = sym (ap (λ (h : Hull). h.corners) c.in_ok-reserve.ensures.unchanged) in
    subst (λ (l : List Position). IsPolygon (l ++ S) c.add_flagged-2.new.hull.corners) c.in_ok-batch.ensures
    (c.add_flagged-2.ensures.set S (subst (IsPolygon S) same before))
