use Rattle.std.proofs.Common.{◌≡◌, ℕ, ◌-◌, ◌<◌, length, pos, ◌<ℤ◌, ◌≤ℤ◌, ◌+ℤ◌, arith, ap, subst, refl, ◌∙◌}
use Rattle.std.proofs.lemmas.Bool.{OnFalse_at, OnFalse_from, OnTrue_at, OnTrue_from}
use Rattle.std.proofs.lemmas.Int.{ints}
use Rattle.range_plane.specs.Edges.{at}
use Rattle.range_plane.specs.Order.{rank}
use Rattle.range_plane.specs.Plane.{Position}
use Rattle.range_pieces.specs.Pieces.{all_points}
use Rattle.range_pieces.specs.PointList.{index}
use Rattle.range_hull.specs.Chain.{bend, on_corner}
use Rattle.range_hull.proofs.Chains.{rank_injective}
use Rattle.range_hull.proofs.Spots.{after_at, before_at, bend_at, between_within, not_after}
use Rattle.range_hull.proofs.chain.lies_outside.Given as given
use Rattle.range_hull.proofs.chain.lies_outside.Goals as goal
use Rattle.range_hull.proofs.chain.lies_outside.Goals.{After-bulges}

pub returns-then-rank : goal.returns-then-rank
returns-then-rank g c =
    let spot = c.requires.spot in
    let here = after_at _ _ c.args.spot.before c.args.spot.after c.in-Some.after spot.beside spot.falls.bound c.in-Some.is in
    let same : rank c.args.p ≡ rank c.in-Some.after = omega (arith, ints) in
    record {
      outside = tt;
      apart = tt;
      inside = on_corner (index c.args.chain.now.pieces c.args.spot.at) here.0
          (rank_injective c.args.p c.in-Some.after c.rank-2.ensures.within c.rank.ensures.within same ∙ here.1);
      turns = omega arith;
      rises = omega arith;
      gained = tt;
      at_first = λ _. refl;
      at_last = λ _. refl;
      none = refl;
    }

falls_before_next : (g : given.Over) (c : After-bulges g) → (index c.args.chain.now.pieces c.args.spot.at < length (all_points c.args.chain.now.pieces))
    × (rank c.args.p <ℤ rank (at (all_points c.args.chain.now.pieces) (index c.args.chain.now.pieces c.args.spot.at)))
falls_before_next g c =
    let spot = c.requires.spot in
    let here = after_at _ _ c.args.spot.before c.args.spot.after c.in-Some.after spot.beside spot.falls.bound c.in-Some.is in
    let after : rank c.args.p ≤ℤ rank c.in-Some.after = not_after _ _ c.args.p c.in-Some.after spot.falls here.0 here.1 in
    let lt : rank c.args.p <ℤ rank c.in-Some.after = grind (arith, ints) in
    (here.0, subst (λ (x : Position). rank c.args.p <ℤ rank x) here.1 lt)

value : (g : given.Over) (c : After-bulges g) → bend c.args.side c.in-Some-before.before c.args.p c.in-Some.after ≡ bend c.args.side
    (at (all_points c.args.chain.now.pieces) (index c.args.chain.now.pieces c.args.spot.at - 1)) c.args.p
    (at (all_points c.args.chain.now.pieces) (index c.args.chain.now.pieces c.args.spot.at))
value g c =
    let spot = c.requires.spot in
    bend_at c.args.side (all_points c.args.chain.now.pieces) (index c.args.chain.now.pieces c.args.spot.at) c.in-Some-before.before c.args.p c.in-Some.after
    (before_at _ _ c.args.spot.before c.args.spot.after c.in-Some-before.before spot.beside c.in-Some-before.is).1
    (after_at _ _ c.args.spot.before c.args.spot.after c.in-Some.after spot.beside spot.falls.bound c.in-Some.is).1

pub returns : goal.returns
returns g c =
    let L = all_points c.args.chain.now.pieces in
    let k : ℕ = index c.args.chain.now.pieces c.args.spot.at in
    let spot = c.requires.spot in
    let some = (before_at _ _ c.args.spot.before c.args.spot.after c.in-Some-before.before spot.beside c.in-Some-before.is).0 in
    record {
      outside = OnTrue_from _ _ (λ h.
          let outside : 0 < k → k < length L → pos 0 <ℤ bend c.args.side (at L (k - 1)) c.args.p (at L k) =
          λ some within. subst (λ z. pos 0 <ℤ z) (value g c) (OnTrue_at h c.bulges.ensures.yes) in
          outside);
      apart = OnTrue_from _ _ (λ h. let before : k < length L → rank c.args.p <ℤ rank (at L k) = λ within. (falls_before_next g c).1 in before);
      inside = OnFalse_from _ _ (λ h. between_within spot.falls some (falls_before_next g c).0 (falls_before_next g c).1
          (subst (λ z. z ≤ℤ pos 0) (value g c) (OnFalse_at h c.bulges.ensures.no)));
      turns = omega (arith, c.bulges.ensures.turns);
      rises = omega (arith, c.bulges.ensures.turns);
      gained = OnTrue_from _ _ (λ h.
          let gained : 0 < k → k < length L
          → pos c.bulges.new.self.area ≡ pos c.args.tally.now.area +ℤ bend c.args.side (at L (k - 1)) c.args.p (at L k) =
          λ some within. OnTrue_at h c.bulges.ensures.gained ∙ ap (λ z. pos c.args.tally.now.area +ℤ z) (value g c) in
          gained);
      at_first = λ z. absurd (omega (arith, z, some));
      at_last = λ z. absurd (omega (arith, z, (falls_before_next g c).0));
      none = c.bulges.ensures.none;
    }
