use Rattle.std.proofs.Common.{◌≡◌, ℕ, ◌+◌, ◌-◌, ◌/◌, ◌<◌, ◌≤◌, length, subst, arith}
use Rattle.std.proofs.lemmas.List.{get_or_read}
use Rattle.range_plane.specs.Plane.{Position, origin, IsAtMost}
use Rattle.range_plane.specs.Edges.{at}
use Rattle.range_plane.proofs.Tops.{at_most_the_top, fall, top_between, top_of_few, second_not_before, last_itself}
use Rattle.range_plane.proofs.edges.easternmost.Goals as goal

pub loop-low-init : goal.loop-low-init
loop-low-init c =
    record {
      some = omega arith;
      ordered = omega arith;
      within = omega arith;
      rises = second_not_before c.args.corners.now c.requires.least_first (omega arith);
      falls = last_itself c.args.corners.now;
    }

pub loop-low-preserved-then-comes_before : goal.loop-low-preserved-then-comes_before
loop-low-preserved-then-comes_before c =
    let L = c.args.corners.now in
    let i = c.loop-low.invariant in
    let m : ℕ = c.loop-low.low + (c.loop-low.high - c.loop-low.low) / 2 in
    let below : m < c.loop-low.high = omega arith in
    let inner : m + 1 < length L = omega (arith, i.within) in
    let e : c.index-corners-middle.result ≡ at L m = get_or_read L m c.index-corners-middle.result (omega arith) c.index-corners-middle.is origin in
    let f : c.index-corners-middle-in-loop-low.result ≡ at L (m + 1) =
    get_or_read L (m + 1) c.index-corners-middle-in-loop-low.result inner c.index-corners-middle-in-loop-low.is origin in
    let before = c.if-comes_before.ensures.yes in
    let up : IsAtMost (at L m) (at L (m + 1)) = subst (λ (x : Position). IsAtMost x (at L (m + 1))) e
    (subst (λ (x : Position). IsAtMost c.index-corners-middle.result x) f before.0) in
    record {
      some = omega arith;
      ordered = omega arith;
      within = i.within;
      rises = at_most_the_top L c.requires.convex c.requires.least_first m inner up;
      falls = i.falls;
    }

pub loop-low-preserved : goal.loop-low-preserved
loop-low-preserved c =
    let L = c.args.corners.now in
    let i = c.loop-low.invariant in
    let m : ℕ = c.loop-low.low + (c.loop-low.high - c.loop-low.low) / 2 in
    let below : m < c.loop-low.high = omega arith in
    let inner : m + 1 < length L = omega (arith, i.within) in
    let e : c.index-corners-middle.result ≡ at L m = get_or_read L m c.index-corners-middle.result (omega arith) c.index-corners-middle.is origin in
    let f : c.index-corners-middle-in-loop-low.result ≡ at L (m + 1) =
    get_or_read L (m + 1) c.index-corners-middle-in-loop-low.result inner c.index-corners-middle-in-loop-low.is origin in
    let down : IsAtMost (at L (m + 1)) (at L m) = subst (λ (x : Position). IsAtMost (at L (m + 1)) x) e
    (subst (λ (x : Position). IsAtMost x c.index-corners-middle.result) f c.if-comes_before.ensures.no) in
    record {
      some = i.some;
      ordered = omega arith;
      within = omega arith;
      rises = i.rises;
      falls = fall L c.requires.convex c.requires.least_first m (omega (arith, i.some)) inner down;
    }

pub returns-then-corners-lt2 : goal.returns-then-corners-lt2
returns-then-corners-lt2 c = top_of_few c.args.corners.now (omega arith)

pub returns : goal.returns
returns c =
    let L = c.args.corners.now in
    let i = c.loop-low.invariant in
    let same : c.loop-low.high ≡ c.loop-low.low = omega (arith, i.ordered) in
    top_between L c.loop-low.low (omega (arith, i.ordered, i.within)) i.rises
    (subst (λ (n : ℕ). (k : ℕ) → n ≤ k → k < length L → IsAtMost (at L k) (at L n)) same i.falls)
