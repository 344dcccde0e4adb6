use Rattle.std.proofs.Common.{◌⊎◌, inl, inr, Contains, sym, ◌∙◌}
use Rattle.std.proofs.lemmas.Bool.{false≢true}
use Rattle.range_plane.specs.ConvexCover.{Covers}
use Rattle.range_plane.specs.Polygon.{without}
use Rattle.range_plane.proofs.Decided.{covered_decided, member_decided}
use Rattle.range_plane.proofs.Round.{goes_all, goes_next, goes_same, goes_some, goes_start}
use Rattle.range_plane.proofs.plain.corners_of.Goals as goal
use Rattle.range_plane.proofs.plain.corners_of.Goals.{then-not-contains+then-not-is_covered_by_others+in_ok-insert, else-not-contains}
use Rattle.range_plane.proofs.plain.corners_of.Goals.{else-not-contains-via-then-not-contains+else-not-is_covered_by_others}
use Rattle.range_plane.proofs.plain.corners_of.Goals.{else-not-contains-via-else-not-contains}

pub loop-p-init : goal.loop-p-init
loop-p-init g c = rw (c.in_ok-push.ensures.items, c.new-corners.ensures.items) (goes_start c.args.points.now c.in-Some.least c.in-Some.ensures.least)

pub index_round-index-requires : goal.index_round-index-requires
index_round-index-requires g c = rw c.deref-then-not-is_covered_by_others.ensures.value
    (goes_some c.args.points.now c.loop-p.p-index c.loop-p.corners.items c.loop-p.invariant)

pub loop-p-preserved : goal.loop-p-preserved
loop-p-preserved g c =
    let S = c.args.points.now in
    let n = c.loop-p.p-index in
    let L = c.loop-p.corners.items in
    let p = c.p-item.result in
    let found = rw c.deref.ensures.value at c.contains.ensures.value in
    elim c.if-not-contains.branch [
      | then-not-contains+then-not-is_covered_by_others+in_ok-insert w ↦
          let placed = rw w.deref-then-not-is_covered_by_others.ensures.value at w.index_round-index.ensures in
          rw (w.corners-is, w.in_ok-insert.ensures.items) (goes_next S n L w.index_round-index.result p c.loop-p.invariant c.loop-p-test.true c.p-item.is
          (λ m. false≢true (sym w.if-not-contains.true ∙ found ∙ (member_decided L p).1 m))
          (λ h. false≢true (sym w.if-not-is_covered_by_others.true ∙ w.is_covered_by_others.ensures ∙ (covered_decided _ p).1 h))
          placed.within.0 placed.before placed.here)
      | else-not-contains w ↦
          let old : Contains L p ⊎ Covers (without p S) p = elim w.else-not-contains.branch [
            | else-not-contains-via-then-not-contains+else-not-is_covered_by_others v ↦ inr
                ((covered_decided _ p).0 (sym v.is_covered_by_others.ensures ∙ v.if-not-is_covered_by_others.false))
            | else-not-contains-via-else-not-contains v ↦ inl ((member_decided L p).0 (sym found ∙ v.if-not-contains.false))
          ] in
          rw w.corners-is (goes_same S n L p c.loop-p.invariant c.loop-p-test.true c.p-item.is old)
    ]

pub returns : goal.returns
returns g c = goes_all c.args.points.now c.loop-p.p-index c.loop-p.corners.items c.loop-p.invariant c.loop-p-test.false
