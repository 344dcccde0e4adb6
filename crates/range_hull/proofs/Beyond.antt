-- What a hull covers lies within both of its chains: a direction separates each other point from all corners.
use Rattle.std.proofs.Common.{◌≡◌, sym, subst, ℕ, ◌+◌, ◌-◌, ◌<◌, pos, neg_ℤ, ◌-ℤ◌, ◌≤ℤ◌, ◌<ℤ◌, inl, inr, List, [], ◌∷◌, length, arith, refl, Contains, Bool}
use Rattle.std.proofs.Common.{true, false}
use Rattle.std.proofs.lemmas.Bool.{OnFalse_at, OnTrue_at, cases_lt}
use Rattle.std.specs.Bool.{OnFalse, OnTrue}
use Rattle.range_plane.specs.ConvexCover.{advance, is_covered}
use Rattle.range_plane.specs.Edges.{at}
use Rattle.range_plane.specs.Order.{rank, rank_base}
use Rattle.range_plane.specs.Plane.{Position, position, turn}
use Rattle.range_plane.specs.Laws.{CoveredIsDecided, CoveringIsReaching, ReachesEveryWay}
use Rattle.range_lemmas.proofs.Integers.{linear}
use Rattle.range_lemmas.proofs.Ring.{var, num, ◌⊕◌, ◌⊖◌, ◌⊗◌, ring}
use Rattle.range_hull.specs.declared.side.Side.{Side}
use Rattle.range_hull.specs.declared.side.Side.TheVariants.{Lower, Upper}
use Rattle.range_hull.specs.Chain.{bend, IsBeyond, before_first, after_all, past_edge, IsChain, LiesWithin, on_corner, on_chord}
use Rattle.range_hull.specs.Hull.{corners_of, AreChains}
use Rattle.range_hull.proofs.Bends.{bend_flip, lifted, turn_of, rank_of}
use Rattle.range_hull.proofs.Chains.{within_between}
use Rattle.range_hull.proofs.Hulls.{corner_in_lower, corner_in_upper, edge_sees, reaches}

-- some direction leaves all of S behind q
record IsApart (S : List Position) (q : Position) : Type 0 where
  pub way : Position
  pub behind : (s : Position) → Contains S s → advance way q s <ℤ pos 0

unreached : (S : List Position) (q : Position) → IsApart S q → ReachesEveryWay S q → ⊥
unreached S q a reach =
    let r = reach a.way in
    let u = a.behind r.0 r.1 in
    let v = r.2 in
    let z : ⊥ = omega (arith, linear, u, v) in z

-- eastwards, where q comes after s
advance_east : (q s : Position) → advance (position (pos rank_base) (pos 1)) q s ≡ rank s -ℤ rank q
unfolding advance rank rank_of
advance_east p r =
    let q = var 0 in let q' = var 1 in let s = var 2 in let s' = var 3 in
    ring (p.e ∷ p.n ∷ r.e ∷ r.n ∷ []) (num (pos rank_base) ⊗ (s ⊖ q) ⊕ num (pos 1) ⊗ (s' ⊖ q')) (rank_of s s' ⊖ rank_of q q') tt

advance_west : (q s : Position) → advance (position (neg_ℤ (pos rank_base)) (neg_ℤ (pos 1))) q s ≡ rank q -ℤ rank s
unfolding advance rank rank_of
advance_west p r =
    let q = var 0 in let q' = var 1 in let s = var 2 in let s' = var 3 in
    ring (p.e ∷ p.n ∷ r.e ∷ r.n ∷ []) (num (neg_ℤ (pos rank_base)) ⊗ (s ⊖ q) ⊕ num (neg_ℤ (pos 1)) ⊗ (s' ⊖ q')) (rank_of q q' ⊖ rank_of s s') tt

-- to the right of the way from a to b, and to its left
advance_right : (a b q s : Position) → advance (position (b.n -ℤ a.n) (a.e -ℤ b.e)) q s ≡ turn a b q -ℤ turn a b s
unfolding advance turn turn_of
advance_right o p r t =
    let a = var 0 in let a' = var 1 in let b = var 2 in let b' = var 3 in let q = var 4 in let q' = var 5 in let s = var 6 in let s' = var 7 in
    ring (o.e ∷ o.n ∷ p.e ∷ p.n ∷ r.e ∷ r.n ∷ t.e ∷ t.n ∷ []) ((b' ⊖ a') ⊗ (s ⊖ q) ⊕ (a ⊖ b) ⊗ (s' ⊖ q')) (turn_of a a' b b' q q' ⊖ turn_of a a' b b' s s') tt

advance_left : (a b q s : Position) → advance (position (a.n -ℤ b.n) (b.e -ℤ a.e)) q s ≡ turn a b s -ℤ turn a b q
unfolding advance turn turn_of
advance_left o p r t =
    let a = var 0 in let a' = var 1 in let b = var 2 in let b' = var 3 in let q = var 4 in let q' = var 5 in let s = var 6 in let s' = var 7 in
    ring (o.e ∷ o.n ∷ p.e ∷ p.n ∷ r.e ∷ r.n ∷ t.e ∷ t.n ∷ []) ((a' ⊖ b') ⊗ (s ⊖ q) ⊕ (b ⊖ a) ⊗ (s' ⊖ q')) (turn_of a a' b b' s s' ⊖ turn_of a a' b b' q q') tt

abbrev away : Side → Position → Position → Position
away Lower a b = position (b.n -ℤ a.n) (a.e -ℤ b.e)
away Upper a b = position (a.n -ℤ b.n) (b.e -ℤ a.e)

advance_away : (side : Side) (a b q s : Position) → advance (away side a b) q s ≡ bend side a b q -ℤ bend side a b s
advance_away Lower a b q s = advance_right a b q s
advance_away Upper a b q s = omega (arith, linear, advance_left a b q s)

-- an edge bends to all that lies within the chain, or that is on the edge
edge_to_corner : {side : Side} {L : List Position} → IsChain side L → (i m : ℕ) → i + 1 < length L → m < length L
    → pos 0 ≤ℤ bend side (at L i) (at L (i + 1)) (at L m)
edge_to_corner c i m k l = edge_sees c i (i + 1) m (omega arith) k l (elim (cases_lt i m) [ inl h ↦ inr (omega (arith, h)) | inr h ↦ inl h ])

edge_bends : {side : Side} {L : List Position} → IsChain side L → (i : ℕ) → i + 1 < length L → (s : Position) → LiesWithin side L s
    → pos 0 ≤ℤ bend side (at L i) (at L (i + 1)) s
edge_bends {side} {L} c i k s (on_corner m l e) = subst (λ (x : Position). pos 0 ≤ℤ bend side (at L i) (at L (i + 1)) x) (sym e) (edge_to_corner c i m k l)
edge_bends {side} {L} c i k s (on_chord m j mj l ms sj h) =
    lifted side (at L i) (at L (i + 1)) (at L m) (at L j) s (c.rising i (i + 1) (omega arith) k) (c.rising m j mj l) ms sj
    (edge_to_corner c i m k (omega arith)) (edge_to_corner c i j k l) h

-- a set that lies within the chain is apart from what lies beyond it
apart_beyond : {side : Side} {L : List Position} → IsChain side L → (S : List Position) → ((s : Position) → Contains S s → LiesWithin side L s) → (q : Position)
    → IsBeyond side L q → IsApart S q
apart_beyond {side} {L} c S within q (before_first h) = record {
  way = position (neg_ℤ (pos rank_base)) (neg_ℤ (pos 1));
  behind = λ s m.
      let b = within_between c s (within s m) in
      omega (arith, linear, advance_west q s, h, b.first);
}
apart_beyond {side} {L} c S within q (after_all h) = record {
  way = position (pos rank_base) (pos 1);
  behind = λ s m.
      let b = within_between c s (within s m) in
      let u : rank (at L (length L - 1)) <ℤ rank q = h (length L - 1) (omega (arith, b.some)) in
      omega (arith, linear, advance_east q s, u, b.last);
}
apart_beyond {side} {L} c S within q (past_edge i k h) = record {
  way = away side (at L i) (at L (i + 1));
  behind = λ s m.
      let u : pos 0 ≤ℤ bend side (at L i) (at L (i + 1)) s = edge_bends c i k s (within s m) in
      omega (arith, linear, advance_away side (at L i) (at L (i + 1)) q s, u, h, bend_flip side (at L i) q (at L (i + 1)));
}

beyond_lower : {L U : List Position} → AreChains L U → (q : Position) → IsBeyond Lower L q → ReachesEveryWay (corners_of L U) q → ⊥
beyond_lower {L} {U} h q b = unreached (corners_of L U) q (apart_beyond h.lower (corners_of L U) (corner_in_lower h) q b)

beyond_upper : {L U : List Position} → AreChains L U → (q : Position) → IsBeyond Upper U q → ReachesEveryWay (corners_of L U) q → ⊥
beyond_upper {L} {U} h q b = unreached (corners_of L U) q (apart_beyond h.upper (corners_of L U) (corner_in_upper h) q b)

decided : (b c : Bool) → (b ≡ true → c ≡ true) → (c ≡ true → b ≡ true) → b ≡ c
decided true c to back = sym (to refl)
decided false true to back = back refl
decided false false to back = refl

-- beyond the lower chain, nothing is covered
pub covered_none : CoveringIsReaching → CoveredIsDecided → {L U : List Position} → AreChains L U → (q : Position) → IsBeyond Lower L q
    → false ≡ is_covered (corners_of L U) q
covered_none reaching decides {L} {U} h q b =
    decided false (is_covered (corners_of L U) q) (λ e. cc e)
    (λ e. absurd (beyond_lower h q b ((reaching (corners_of L U) q).0 ((decides (corners_of L U) q).0 e))))

-- within the lower chain, the upper one decides
pub covered_by_upper : CoveringIsReaching → CoveredIsDecided → {L U : List Position} → AreChains L U → (q : Position) → LiesWithin Lower L q → (b : Bool)
    → OnTrue b (LiesWithin Upper U q) → OnFalse b (IsBeyond Upper U q) → b ≡ is_covered (corners_of L U) q
covered_by_upper reaching decides {L} {U} h q w true within beyond =
    sym ((decides (corners_of L U) q).1 ((reaching (corners_of L U) q).1 (reaches h q w (OnTrue_at refl within))))
covered_by_upper reaching decides {L} {U} h q w false within beyond =
    decided false (is_covered (corners_of L U) q) (λ e. cc e)
    (λ e. absurd (beyond_upper h q (OnFalse_at refl beyond) ((reaching (corners_of L U) q).0 ((decides (corners_of L U) q).0 e))))
