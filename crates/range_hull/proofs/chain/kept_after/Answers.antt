use Rattle.std.proofs.Common.{◌≡◌, ℕ, ◌+◌, ◌-◌, ◌<◌, length, pos, ◌≤ℤ◌, arith, refl, ap, sym, subst, ◌∙◌}
use Rattle.range_plane.specs.Edges.{at}
use Rattle.range_plane.specs.Plane.{Position}
use Rattle.range_lemmas.proofs.Integers.{linear}
use Rattle.range_pieces.specs.Pieces.{all_points}
use Rattle.range_pieces.specs.PointList.{index}
use Rattle.range_hull.specs.Area.{sweep_after}
use Rattle.range_hull.specs.Chain.{bend}
use Rattle.range_hull.proofs.Area.{after_step}
use Rattle.range_hull.proofs.chain.kept_after.Goals as goal

pub loop-side-init : goal.loop-side-init
loop-side-init g c = (
  c.requires.stands,
  omega arith,
  (λ h. h),
  (λ h. absurd (omega (arith, h))),
  omega arith,
  (λ h. refl),
  (λ h. refl),
  omega arith,
)

pub loop-side-preserved : goal.loop-side-preserved
loop-side-preserved g c =
    let bs = c.args.chain.now.pieces in
    let L = all_points bs in
    let side = c.args.side in
    let p = c.args.p in
    let k : ℕ = index bs c.loop-side.kept in
    let m : ℕ = index bs c.next-next.result in
    let i = c.loop-side.invariant in
    let more : k + 1 ≡ m = sym c.next-next.ensures.index in
    let within : m < length L = c.if-is_end.ensures.within in
    let here = c.get.ensures in
    let after = c.get-in-loop-side.ensures ∙ ap (at L) (sym more) in
    let value : bend side p c.get.result c.get-in-loop-side.result ≡ bend side p (at L k) (at L (k + 1)) =
    ap (λ (x : Position). bend side p x c.get-in-loop-side.result) here ∙ ap (λ (x : Position). bend side p (at L k) x) after in
    let dent : bend side p (at L k) (at L (k + 1)) ≤ℤ pos 0 = omega (arith, linear, value, c.if-not-dents.ensures.yes) in
    let gained = c.if-not-dents.ensures.gained in (
      c.next-next.ensures.stands,
      omega (arith, more, i.1),
      (λ h. within),
      (λ h.
          subst (λ (n : ℕ). bend side p (at L (n - 1)) (at L n) ≤ℤ pos 0) more
          (subst (λ (n : ℕ). bend side p (at L n) (at L (k + 1)) ≤ℤ pos 0) (let e : k ≡ k + 1 - 1 = omega arith in e) dent)),
      omega (arith, more, i.4, c.if-not-dents.ensures.turns),
      (λ h. omega (arith, linear, gained, value, after_step side L p k (omega (arith, more, within)), i.5 h, ap (sweep_after side L p) more)),
      (λ z. absurd (omega (arith, z, i.1, more, within))),
      omega (arith, i.7, c.if-not-dents.ensures.turns),
    )
