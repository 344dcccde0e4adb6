use Rattle.std.proofs.Common.{◌≡◌, ◌∙◌, ℕ, ◌+◌, ◌≤◌, Bool, true, ◌&&◌, not, inl, inr, List, Some, int_eq, slice_get, arith, sym, ap}
use Rattle.std.specs.Bool.{Decides}
use Rattle.std.proofs.lemmas.Bool.{cases_eq, false≢true, not-false}
use Rattle.std.proofs.lemmas.Bool.Decides.{Decides-and, Decides-int_eq, Decides-like}
use Rattle.std.proofs.lemmas.Option.{get_or_from_slice_get}
use Rattle.range_plane.specs.Edges.{at}
use Rattle.range_plane.specs.Plane.{Position, origin}
use Rattle.page_influence.proofs.corner_fixes.first_at.Goals as goal

same_decides : (a b : Position) → Decides (int_eq a.e b.e && int_eq a.n b.n) (a ≡ b)
same_decides a b =
    Decides-like _ (λ (same : (a.e ≡ b.e) × (a.n ≡ b.n)). λ i. record { e = same.0 i; n = same.1 i })
    (λ e. (ap (λ (x : Position). x.e) e, ap (λ (x : Position). x.n) e))
    (Decides-and _ _ (Decides-int_eq a.e b.e) (Decides-int_eq a.n b.n))

-- a fix that is elsewhere is not the one at the corner
later : (points : List Position) (index k : ℕ) (p corner : Position) (differs : Bool) → slice_get points index ≡ Some p → at points k ≡ corner
    → differs ≡ not (int_eq p.e corner.e && int_eq p.n corner.n) → differs ≡ true → index ≤ k → index + 1 ≤ k
later points index k p corner differs here there is yes_it_does from = elim (cases_eq k index) [
  | inl same ↦
      let at_corner : p ≡ corner = sym (get_or_from_slice_get points index p origin here) ∙ ap (at points) (sym same) ∙ there in
      absurd (false≢true (sym (is ∙ ap not ((same_decides p corner).1 at_corner)) ∙ yes_it_does))
  | inr apart ↦ omega (arith, from, apart)
]

pub overflow_add-index : goal.overflow_add-index
overflow_add-index c =
    let inv = c.loop-corner.invariant in
    let next = later c.args.points.now.points c.loop-corner.index inv.0 c.at.result c.args.corner c.ne.result c.at.ensures inv.3 c.ne.ensures
    c.loop-corner-test.true inv.1
    in
    record { fits = omega (arith, next, inv.2, c.requires.few) }

pub loop-corner-preserved : goal.loop-corner-preserved
loop-corner-preserved c =
    let inv = c.loop-corner.invariant in (
      inv.0,
      later c.args.points.now.points c.loop-corner.index inv.0 c.at.result c.args.corner c.ne.result c.at.ensures inv.3 c.ne.ensures
          c.loop-corner-test.true inv.1,
      inv.2,
      inv.3,
    )

pub returns : goal.returns
returns c = record {
  within = omega (arith, c.loop-corner.invariant.1, c.loop-corner.invariant.2);
  there = get_or_from_slice_get c.args.points.now.points c.loop-corner.index c.at.result origin c.at.ensures
      ∙ (same_decides c.at.result c.args.corner).0 (not-false _ (sym c.ne.ensures ∙ c.loop-corner-test.false));
}
