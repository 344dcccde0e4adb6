use Rattle.std.proofs.Common.{ℕ, List, subst, sym, length, ap, ◌∙◌, ◌-◌, pos, ◌+ℤ◌, arith}
use Rattle.range_plane.specs.Edges.{at}
use Rattle.range_plane.specs.Plane.{Position}
use Rattle.range_lemmas.proofs.Indices.{replaced_length}
use Rattle.range_pieces.specs.Pieces.{all_points}
use Rattle.range_pieces.specs.PointList.{index}
use Rattle.range_hull.specs.Area.{sweep_of, with_sign, open_edge}
use Rattle.range_hull.specs.Chain.{Extends}
use Rattle.range_hull.proofs.Area.{Grows, grown, not_grown}
use Rattle.range_hull.proofs.Chains.{ReplacesRun, after_index, replaced_extends, within_extends}
use Rattle.range_hull.proofs.chain.extend.Given as given
use Rattle.range_hull.proofs.chain.extend.Goals as goal

pub returns-then-not-lies_outside-clause-chain : goal.returns-then-not-lies_outside-clause-chain
returns-then-not-lies_outside-clause-chain g c = within_extends c.requires.chain c.args.p c.if-not-lies_outside.ensures.inside

pub returns-then-not-lies_outside-clause-swept : goal.returns-then-not-lies_outside-clause-swept
returns-then-not-lies_outside-clause-swept g c =
    let L = all_points c.args.chain.now.pieces in
    ap (λ (n : ℕ). pos n +ℤ sweep_of c.args.side L +ℤ with_sign c.args.side (open_edge (at L 0) (at L (length L - 1)) c.args.p)) c.if-not-lies_outside.ensures.none
    ∙ not_grown c.requires.chain c.args.p (pos c.args.tally.now.area) c.if-not-lies_outside.ensures.inside

placed : (g : given.Over) (c : goal.After-replace_run g) → ReplacesRun c.args.side (all_points c.args.chain.now.pieces) c.args.p
    (index c.args.chain.now.pieces c.kept_before-from.result) (index c.args.chain.now.pieces c.args.spot.at)
    (index c.args.chain.now.pieces c.kept_after-to.result)
placed g c =
    let bs = c.args.chain.now.pieces in record {
      low = c.kept_before-from.ensures.bound;
      high = c.kept_after-to.ensures.bound;
      within = c.kept_after-to.ensures.within;
      starts = c.kept_before-from.ensures.starts;
      stops = c.kept_after-to.ensures.stops;
      before = c.requires.spot.falls.before;
      after = after_index (all_points bs) c.args.p (index bs c.args.spot.at) c.requires.chain.rising c.if-not-lies_outside.ensures.apart;
      outside = c.if-not-lies_outside.ensures.outside;
      bends_before = c.kept_before-from.ensures.bends;
      dents_before = c.kept_before-from.ensures.dents;
      bends_after = c.kept_after-to.ensures.bends;
      dents_after = c.kept_after-to.ensures.dents;
    }

pub returns-clause-chain : goal.returns-clause-chain
returns-clause-chain g c = subst (λ (M : List Position). Extends c.args.side (all_points c.args.chain.now.pieces) c.args.p M) (sym c.replace_run.ensures.points)
    (replaced_extends c.requires.chain (placed g c))

pub returns-clause-turns : goal.returns-clause-turns
returns-clause-turns g c =
    let bs = c.args.chain.now.pieces in
    let size = replaced_length (all_points bs) c.args.p (index bs c.kept_before-from.result) (index bs c.kept_after-to.result)
    (omega (arith, c.kept_before-from.ensures.bound, c.kept_after-to.ensures.bound)) c.kept_after-to.ensures.within in
    omega (
      arith,
      size,
      ap length c.replace_run.ensures.points,
      c.if-not-lies_outside.ensures.turns,
      c.kept_before-from.ensures.turns,
      c.kept_after-to.ensures.turns,
    )

pub returns-clause-swept : goal.returns-clause-swept
returns-clause-swept g c =
    let bs = c.args.chain.now.pieces in
    let L = all_points bs in
    let from : ℕ = index bs c.kept_before-from.result in
    let here : ℕ = index bs c.args.spot.at in
    let to : ℕ = index bs c.kept_after-to.result in
    let grows : Grows c.args.side L c.args.p from here to (pos c.args.tally.now.area) (pos c.lies_outside.new.tally.area)
    (pos c.kept_before-from.new.tally.area) (pos c.kept_after-to.new.tally.area) = record {
      outside = c.if-not-lies_outside.ensures.gained;
      at_first = λ z. ap pos (c.if-not-lies_outside.ensures.at_first z);
      at_last = λ z. ap pos (c.if-not-lies_outside.ensures.at_last z);
      before = c.kept_before-from.ensures.swept;
      none_before = λ z. ap pos (c.kept_before-from.ensures.none z);
      after = c.kept_after-to.ensures.swept;
      none_after = λ z. ap pos (c.kept_after-to.ensures.none z);
    } in
    grown c.args.side L c.args.p from here to _ _ _ _ (placed g c) grows
    ∙ ap (λ (M : List Position). pos c.args.tally.now.area +ℤ sweep_of c.args.side M) (sym {A = List Position} c.replace_run.ensures.points)
