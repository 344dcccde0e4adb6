use Rattle.std.proofs.Common.{◌≡◌, subst, ℕ, ◌+◌, ◌/◌, ◌<◌, length, arith}
use Rattle.std.specs.Bool.{OnFalse, OnTrue}
use Rattle.std.proofs.lemmas.Grind.{common_steps}
use Rattle.std.proofs.lemmas.List.{get_or_read}
use Rattle.range_plane.specs.Edges.{at}
use Rattle.range_plane.specs.Plane.{Position, origin, IsAtMost, IsBefore}
use Rattle.range_plane.proofs.AtMost.{through_most}
use Rattle.range_plane.proofs.CornerSearch.{around, halved}
use Rattle.range_plane.proofs.SpanningEdges.{before_through, through_before}
use Rattle.range_plane.proofs.Tops.{falls_from_top, rises_to_top}
use Rattle.range_plane.proofs.edges.spanning_edges.Goals as goal

pub loop-lower_size-init : goal.loop-lower_size-init
loop-lower_size-init c = grind (arith, common_steps)

pub loop-lower_size-preserved : goal.loop-lower_size-preserved
loop-lower_size-preserved c =
    let L = c.args.corners.now in
    let q = c.args.q in
    let top = c.args.top in
    let within : top < length L = c.requires.top.within c.requires.some in
    let lower = c.loop-lower_size.invariant.0 in
    let upper = c.loop-lower_size.invariant.1 in
    let half : ℕ = c.loop-lower_size.lower_size / 2 in
    let half' : ℕ = c.loop-lower_size.upper_size / 2 in
    let e : c.index-corners-lower.result ≡ at L (c.loop-lower_size.lower + half) =
    get_or_read L (c.loop-lower_size.lower + half) c.index-corners-lower.result (omega (arith, lower.to, lower.some)) c.index-corners-lower.is origin in
    let f : c.index-corners-upper.result ≡ at L (c.loop-lower_size.upper + half') =
    get_or_read L (c.loop-lower_size.upper + half') c.index-corners-upper.result (omega (arith, upper.to, upper.some)) c.index-corners-upper.is origin in
    let first = c.comes_before in
    let second = c.comes_before-in-loop-lower_size in (
      halved L 0 top (λ x. IsBefore x q) (λ x. IsAtMost q x) (omega (arith, within))
          (λ i from to h. through_most q (at L i) (at L (i + 1)) h
          (rises_to_top L top c.requires.polygon.convex c.requires.polygon.least_first c.requires.top within i (omega (arith, to))))
          c.loop-lower_size.lower c.loop-lower_size.lower_size c.count_if-lower.result first.result lower c.count_if-lower.ensures
          (subst (λ (x : Position). OnTrue first.result (IsBefore x q)) e first.ensures.yes)
          (subst (λ (x : Position). OnFalse first.result (IsAtMost q x)) e first.ensures.no),
      halved L top (length L) (λ x. IsBefore q x) (λ x. IsAtMost x q) (omega arith)
          (λ i from to h. through_most (at L (i + 1)) (at L i) q (falls_from_top L top c.requires.polygon.convex c.requires.polygon.least_first c.requires.top
          (omega (arith, lower.some, lower.to)) i from to) h)
          c.loop-lower_size.upper c.loop-lower_size.upper_size c.count_if-upper.result second.result upper c.count_if-upper.ensures
          (subst (λ (x : Position). OnTrue second.result (IsBefore q x)) f second.ensures.yes)
          (subst (λ (x : Position). OnFalse second.result (IsAtMost x q)) f second.ensures.no),
    )

pub returns-clause-lower : goal.returns-clause-lower
returns-clause-lower c =
    let L = c.args.corners.now in
    let lower = c.loop-lower_size.invariant.0 in
    let one : c.loop-lower_size.lower_size ≡ 1 = omega (arith, lower.some, c.if-lower_size-gt1.false) in
    let reached = subst (λ k. IsAtMost c.args.q (around L (c.loop-lower_size.lower + k))) one lower.reached in
    record {
      rising = through_before (at L c.loop-lower_size.lower) c.args.q (around L (c.loop-lower_size.lower + 1)) lower.passed reached;
      from =
          lower.passed.0;
      to = reached;
    }

pub returns-clause-upper : goal.returns-clause-upper
returns-clause-upper c =
    let L = c.args.corners.now in
    let upper = c.loop-lower_size.invariant.1 in
    let one : c.loop-lower_size.upper_size ≡ 1 = omega (arith, upper.some, c.if-upper_size-gt1.false) in
    let reached = subst (λ k. IsAtMost (around L (c.loop-lower_size.upper + k)) c.args.q) one upper.reached in
    record {
      rising = before_through (around L (c.loop-lower_size.upper + 1)) c.args.q (at L c.loop-lower_size.upper) reached upper.passed;
      from = reached;
      to =
          upper.passed.0;
    }
