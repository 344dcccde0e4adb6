use Rattle.std.proofs.Common.{◌≡◌, sym, ◌<◌, length, subst, arith, rules}
use Rattle.std.specs.Bool.{OnFalse, OnTrue}
use Rattle.std.proofs.lemmas.Bool.{eqb-false, eqb-true}
use Rattle.std.proofs.lemmas.List.{get_or_read}
use Rattle.range_plane.specs.Edges.{at}
use Rattle.range_plane.specs.Plane.{Position, origin, IsAtMost, IsBefore}
use Rattle.range_plane.proofs.Ends.{first_covered, top_covered, nothing_covered}
use Rattle.range_plane.proofs.edges.covers.Goals as goal

pub returns-then-is_empty : goal.returns-then-is_empty
returns-then-is_empty c = nothing_covered c.args.corners.now c.args.q (eqb-true _ _ (sym c.if-is_empty.ensures))

pub returns-then-not-comes_before : goal.returns-then-not-comes_before
returns-then-not-comes_before c =
    let L = c.args.corners.now in
    let some : 0 < length L = omega (arith, eqb-false _ _ (sym c.if-is_empty.ensures)) in
    let e : c.index-corners-0.result ≡ at L 0 = get_or_read L 0 c.index-corners-0.result some c.index-corners-0.is origin in
    let smaller = c.comes_before-then-not-comes_before in
    first_covered L c.args.q smaller.result c.requires.polygon.least_first some
    (subst (λ (x : Position). IsAtMost c.args.q x) e c.if-not-comes_before.ensures.no)
    (subst (λ (x : Position). OnTrue smaller.result (IsBefore c.args.q x)) e smaller.ensures.yes)
    (subst (λ (x : Position). OnFalse smaller.result (IsAtMost x c.args.q)) e smaller.ensures.no)

pub returns-then-not-comes_before-2 : goal.returns-then-not-comes_before-2
returns-then-not-comes_before-2 c =
    let L = c.args.corners.now in
    let some : 0 < length L = omega (arith, eqb-false _ _ (sym c.if-is_empty.ensures)) in
    let e : c.index-corners-top.result ≡ at L c.args.top = get_or_read L c.args.top c.index-corners-top.result
    (c.requires.top.within some) c.index-corners-top.is origin in
    let greater = c.comes_before-then-not-comes_before-2 in
    top_covered L c.args.top c.args.q greater.result c.requires.top some
    (subst (λ (x : Position). IsAtMost x c.args.q) e c.if-not-comes_before-2.ensures.no)
    (subst (λ (x : Position). OnTrue greater.result (IsBefore x c.args.q)) e greater.ensures.yes)
    (subst (λ (x : Position). OnFalse greater.result (IsAtMost c.args.q x)) e greater.ensures.no)

pub is_left_of_both-requires-clause-first : goal.is_left_of_both-requires-clause-first
is_left_of_both-requires-clause-first c = search rules
