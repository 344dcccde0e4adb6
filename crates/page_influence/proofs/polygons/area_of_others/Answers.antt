use Rattle.std.proofs.Common.{◌≡◌, ◌∙◌, ℕ, ◌+◌, ◌-◌, suc, ◌++◌, [], List, length, take, drop, append_assoc, append-nil, arith, sym, ap, subst}
use Rattle.std.proofs.lemmas.List.{take_rest}
use Rattle.range_hull.specs.Hull.{Hull}
use Rattle.range_plane.specs.Plane.{Position}
use Rattle.range_plane.specs.Polygon.{IsPolygon}
use Rattle.page_influence.specs.Layers.{other_corners}
use Rattle.page_influence.proofs.Rest.{none_of_none}
use Rattle.page_influence.proofs.polygons.area_of_others.Goals as goal

-- the first corners, those behind the one that is left out, and those of the rest
joined : (corners inner : List Position) (place : ℕ)
    → take place corners ++ (take (length corners - (place + 1)) (drop (place + 1) corners) ++ (inner ++ [])) ≡ other_corners corners place inner
joined corners inner place =
    let next : place + 1 ≡ suc place = omega arith in
    ap (λ l. take place corners ++ (l ++ (inner ++ []))) (take_rest corners (place + 1) ∙ ap (λ n. drop n corners) next)
    ∙ ap (λ l. take place corners ++ (drop (suc place) corners ++ l)) (append-nil inner) ∙ sym (append_assoc (take place corners) (drop (suc place) corners) inner)

pub returns : goal.returns
returns c =
    let corners = c.args.corners.now in
    let inner = c.args.inner.now in
    let place = c.args.place in
    let start : c.reserve.new.self.corners ≡ [] =
    ap (λ (h : Hull). h.corners) c.in_ok-reserve.ensures.unchanged ∙ ap (λ (h : Hull). h.corners) c.new-hull.ensures in
    let first = c.insert_all.ensures.set [] (subst (IsPolygon []) (sym start) none_of_none) in
    let second = c.insert_all-2.ensures.set (inner ++ []) first in
    let all = c.insert_all-3.ensures.set (take (length corners - (place + 1)) (drop (place + 1) corners) ++ (inner ++ [])) second in
    (c.insert_all-3.new.hull.corners, subst (λ (S : List Position). IsPolygon S c.insert_all-3.new.hull.corners) (joined corners inner place) all, c.area2.ensures)
