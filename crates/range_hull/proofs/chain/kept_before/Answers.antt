use Rattle.std.proofs.Common.{◌≡◌, ℕ, ◌+◌, ◌-◌, ◌≤◌, length, pos, ◌≤ℤ◌, arith, ap, subst, ◌∙◌}
use Rattle.range_plane.specs.Edges.{at}
use Rattle.range_plane.specs.Plane.{Position}
use Rattle.range_lemmas.proofs.Integers.{linear}
use Rattle.range_pieces.specs.Pieces.{all_points}
use Rattle.range_pieces.specs.PointList.{index}
use Rattle.range_hull.specs.Area.{sweep_before}
use Rattle.range_hull.specs.Chain.{bend}
use Rattle.range_hull.proofs.Area.{before_step}
use Rattle.range_hull.proofs.chain.kept_before.Goals as goal

pub loop-side-preserved : goal.loop-side-preserved
loop-side-preserved g c =
    let bs = c.args.chain.now.pieces in
    let L = all_points bs in
    let side = c.args.side in
    let p = c.args.p in
    let k : ℕ = index bs c.loop-side.kept in
    let m : ℕ = index bs c.previous-last.result in
    let i = c.loop-side.invariant in
    let last : m + 1 ≡ k = c.previous-last.ensures.index in
    let first : index bs c.previous.result + 1 ≡ m = c.previous.ensures.index in
    let within : k ≤ length L = omega (arith, last, c.previous-last.ensures.within) in
    let before = c.get-before.ensures ∙ ap (at L) (let e : index bs c.previous.result ≡ k - 2 = omega (arith, last, first) in e) in
    let here = c.get.ensures ∙ ap (at L) (let e : m ≡ k - 1 = omega (arith, last) in e) in
    let value : bend side c.get-before.result c.get.result p ≡ bend side (at L (k - 2)) (at L (k - 1)) p =
    ap (λ (x : Position). bend side x c.get.result p) before ∙ ap (λ (x : Position). bend side (at L (k - 2)) x p) here in
    let dent : bend side (at L (k - 2)) (at L (k - 1)) p ≤ℤ pos 0 = omega (arith, linear, value, c.if-not-dents.ensures.yes) in
    let gained = c.if-not-dents.ensures.gained in
    let less : k - 1 ≡ m = omega (arith, last) in (
      c.previous-last.ensures.stands,
      omega (arith, last, i.1),
      (λ h. omega (arith, last, first)),
      (λ h.
          subst (λ (n : ℕ). bend side (at L (n - 1)) (at L n) p ≤ℤ pos 0) less
          (subst (λ (n : ℕ). bend side (at L n) (at L (k - 1)) p ≤ℤ pos 0) (let e : k - 2 ≡ k - 1 - 1 = omega arith in e) dent)),
      omega (arith, last, i.4, c.if-not-dents.ensures.turns),
      (λ h. omega (arith, linear, gained, value, before_step side L p k (omega (arith, last, first)) within, i.5 h, ap (sweep_before side L p) less)),
      (λ z. absurd (omega (arith, z, i.1, last))),
      omega (arith, i.7, c.if-not-dents.ensures.turns),
    )
