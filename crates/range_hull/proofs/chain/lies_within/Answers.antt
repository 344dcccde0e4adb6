use Rattle.std.proofs.Common.{◌≡◌, sym, ℕ, ◌+◌, ◌-◌, pos, ◌<ℤ◌, ◌≤ℤ◌, arith, subst, ◌∙◌}
use Rattle.std.proofs.lemmas.Bool.{OnFalse_at, OnFalse_from, OnTrue_at, OnTrue_from}
use Rattle.std.proofs.lemmas.Int.{ints}
use Rattle.range_plane.specs.Edges.{at}
use Rattle.range_plane.specs.Order.{rank}
use Rattle.range_plane.specs.Plane.{Position}
use Rattle.range_pieces.specs.Pieces.{all_points}
use Rattle.range_pieces.specs.PointList.{index}
use Rattle.range_hull.specs.Chain.{before_first, past_edge, bend, on_corner}
use Rattle.range_hull.proofs.Chains.{rank_injective}
use Rattle.range_hull.proofs.Spots.{after_at, before_at, bend_at, between_within, none_before, not_after}
use Rattle.range_hull.proofs.chain.lies_within.Given as given
use Rattle.range_hull.proofs.chain.lies_within.Goals as goal

pub returns-then-rank-clause-within : goal.returns-then-rank-clause-within
returns-then-rank-clause-within g c =
    let spot = c.requires in
    let here = after_at _ _ c.args.spot.before c.args.spot.after c.in-Some.next spot.beside spot.falls.bound c.in-Some.is in
    let same : rank c.args.p ≡ rank c.in-Some.next = omega (arith, ints) in
    on_corner (index c.args.chain.now.pieces c.args.spot.at) here.0
    (rank_injective c.args.p c.in-Some.next c.rank-2.ensures.within c.rank.ensures.within same ∙ here.1)

pub returns-in_default-before-clause-beyond : goal.returns-in_default-before-clause-beyond
returns-in_default-before-clause-beyond g c =
    let spot = c.requires in
    let L = all_points c.args.chain.now.pieces in
    let k : ℕ = index c.args.chain.now.pieces c.args.spot.at in
    let here = after_at _ _ c.args.spot.before c.args.spot.after c.in-Some.next spot.beside spot.falls.bound c.in-Some.is in
    let after : rank c.args.p ≤ℤ rank c.in-Some.next = not_after _ _ c.args.p c.in-Some.next spot.falls here.0 here.1 in
    let lt : rank c.args.p <ℤ rank c.in-Some.next = grind (arith, ints) in
    let first : k ≡ 0 = none_before L k c.args.spot.before c.args.spot.after spot.beside c.in_default-before.is in
    before_first (subst (λ (n : ℕ). rank c.args.p <ℤ rank (at L n)) first (subst (λ (x : Position). rank c.args.p <ℤ rank x) here.1 lt))

value : (g : given.Over) (c : goal.After-has_within g) → bend c.args.side c.in-Some-before.before c.args.p c.in-Some.next ≡ bend c.args.side
    (at (all_points c.args.chain.now.pieces) (index c.args.chain.now.pieces c.args.spot.at - 1)) c.args.p
    (at (all_points c.args.chain.now.pieces) (index c.args.chain.now.pieces c.args.spot.at))
value g c =
    let spot = c.requires in
    bend_at c.args.side (all_points c.args.chain.now.pieces) (index c.args.chain.now.pieces c.args.spot.at) c.in-Some-before.before c.args.p c.in-Some.next
    (before_at _ _ c.args.spot.before c.args.spot.after c.in-Some-before.before spot.beside c.in-Some-before.is).1
    (after_at _ _ c.args.spot.before c.args.spot.after c.in-Some.next spot.beside spot.falls.bound c.in-Some.is).1

pub returns-clause-within : goal.returns-clause-within
returns-clause-within g c = OnTrue_from _ _ (λ h.
    let spot = c.requires in
    let here = after_at _ _ c.args.spot.before c.args.spot.after c.in-Some.next spot.beside spot.falls.bound c.in-Some.is in
    let some = (before_at _ _ c.args.spot.before c.args.spot.after c.in-Some-before.before spot.beside c.in-Some-before.is).0 in
    let after : rank c.args.p ≤ℤ rank c.in-Some.next = not_after _ _ c.args.p c.in-Some.next spot.falls here.0 here.1 in
    let lt : rank c.args.p <ℤ rank c.in-Some.next = grind (arith, ints) in
    between_within spot.falls some here.0 (subst (λ (x : Position). rank c.args.p <ℤ rank x) here.1 lt)
    (subst (λ z. z ≤ℤ pos 0) (value g c) (OnTrue_at h c.has_within.ensures.yes)))

pub returns-clause-beyond : goal.returns-clause-beyond
returns-clause-beyond g c = OnFalse_from _ _ (λ h.
    let spot = c.requires in
    let L = all_points c.args.chain.now.pieces in
    let k : ℕ = index c.args.chain.now.pieces c.args.spot.at in
    let here = after_at _ _ c.args.spot.before c.args.spot.after c.in-Some.next spot.beside spot.falls.bound c.in-Some.is in
    let some = (before_at _ _ c.args.spot.before c.args.spot.after c.in-Some-before.before spot.beside c.in-Some-before.is).0 in
    let last : k - 1 + 1 ≡ k = omega (arith, some) in
    past_edge (k - 1) (omega (arith, last, here.0))
    (subst (λ (n : ℕ). pos 0 <ℤ bend c.args.side (at L (k - 1)) c.args.p (at L n)) (sym last)
    (subst (λ z. pos 0 <ℤ z) (value g c) (OnFalse_at h c.has_within.ensures.no))))
