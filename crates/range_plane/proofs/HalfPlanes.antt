-- The points that a polygon of three or more corners covers are those to the left of each edge, or on it.
use Rattle.std.proofs.Common.{◌≡◌, refl, sym, ◌∙◌, subst, ℕ, suc, ◌<◌, ◌+◌, length, get_or, pos, ◌+ℤ◌, ◌≤ℤ◌, ◌<ℤ◌, ◌↔◌, List, [], ◌∷◌, Contains, AllPairs, ◌⊎◌}
use Rattle.std.proofs.Common.{inl, inr, arith}
use Rattle.std.proofs.lemmas.List.{get_or_default}
use Rattle.std.proofs.lemmas.Int.{by_lt_z}
use Rattle.range_plane.specs.ConvexCover.{Covers, IsLeftOfEdges}
use Rattle.range_plane.specs.Plane.{Position, turn}
use Rattle.range_plane.specs.Polygon.{TurnsLeft}
use Rattle.range_plane.specs.ConvexCover.Covers.{by_triangle}
use Rattle.range_lemmas.proofs.Integers.{linear}
use Rattle.range_lemmas.proofs.Members.{contains_first, contains_later}
use Rattle.range_plane.proofs.Separation.{not_both}
use Rattle.range_plane.proofs.Unique.{round_head, in_rest}
use Rattle.range_plane.proofs.Vectors.{leftward, dot_leftward, turn_swap, turn_cycle, turn_self, turn_end}

-- ---- a covered point lies in each half plane that holds the set
-- where no member is on the right of the way from a to b, nothing that the set covers is
pub in_half_plane : (S : List Position) (a b q : Position) → ((x : Position) → Contains S x → pos 0 ≤ℤ turn a b x) → Covers S q → pos 0 ≤ℤ turn a b q
in_half_plane S a b q h c =
    by_lt_z (turn a b q) (pos 0) (λ k. absurd (not_both S q (leftward a b) c (λ x m. omega (arith, linear, dot_leftward a b q x, h x m)))) (λ k. k)

-- of two numbers one is less than the other, or they are equal
pub in_order : (m k : ℕ) → (m < k) ⊎ ((m ≡ k) ⊎ (k < m))
in_order m k = grind arith

-- ---- the triangles from one corner
-- the turn to q from an edge backwards is that from the edge, negated
pub turn_back : (a b q : Position) → turn b a q +ℤ turn a b q ≡ pos 0
turn_back a b q = omega (arith, linear, turn_cycle a b q, turn_cycle b q a, turn_swap q a b, turn_cycle q a b, turn_cycle b a q, turn_cycle a q b)

-- each edge from a member of the list to the next keeps q on its left, and so does the one from the last member to c
record Borders (c q : Position) (L : List Position) : Type 0 where
  edges : (k : ℕ) (d : Position) → k + 1 < length L → pos 0 ≤ℤ turn (get_or L k d) (get_or L (k + 1) d) q
  closing : (k : ℕ) (d : Position) → k + 1 ≡ length L → pos 0 ≤ℤ turn (get_or L k d) c q

shorter_borders : (c q a b : Position) (L : List Position) → Borders c q (a ∷ b ∷ L) → Borders c q (b ∷ L)
shorter_borders c q a b L h =
    record {
      edges = λ k d l. let e : suc k + 1 ≡ suc (k + 1) = omega arith in
          subst (λ z. pos 0 ≤ℤ turn (get_or (b ∷ L) k d) (get_or (a ∷ b ∷ L) z d) q) e (h.edges (suc k) d (omega arith));
      closing = λ k d l. h.closing (suc k) d (omega arith);
    }

triangle_at : (S : List Position) (c q a b : Position) → Contains S c → Contains S a → Contains S b → pos 0 <ℤ turn c a b → pos 0 ≤ℤ turn c a q
    → pos 0 ≤ℤ turn a b q → pos 0 ≤ℤ turn b c q → Covers S q
triangle_at S c q a b mc ma mb p h k l = by_triangle c a b mc ma mb (record { proper = p; first = h; second = k; third = l })

fan : (S : List Position) (c q a b : Position) (rest : List Position) → Contains S c → ((x : Position) → Contains (a ∷ b ∷ rest) x → Contains S x)
    → AllPairs (λ x y. pos 0 <ℤ turn c x y) (a ∷ b ∷ rest) → Borders c q (a ∷ b ∷ rest) → pos 0 ≤ℤ turn c a q → Covers S q
fan S c q a b [] mc sub pairs borders h =
    triangle_at S c q a b mc (sub a (contains_first a (b ∷ []))) (sub b (contains_later a (b ∷ []) b (contains_first b [])))
    (pairs 0 1 c (omega arith) (omega arith)) h (borders.edges 0 c (omega arith)) (borders.closing 1 c refl)
fan S c q a b (e ∷ rest) mc sub pairs borders h =
    by_lt_z (pos 0) (turn c b q)
    (λ p. fan S c q b e rest mc (λ x m. sub x (contains_later a (b ∷ e ∷ rest) x m)) (in_rest (λ x y. pos 0 <ℤ turn c x y) a (b ∷ e ∷ rest) pairs)
    (shorter_borders c q a b (e ∷ rest) borders) (omega (arith, linear)))
    (λ p. triangle_at S c q a b mc (sub a (contains_first a (b ∷ e ∷ rest))) (sub b (contains_later a (b ∷ e ∷ rest) b (contains_first b (e ∷ rest))))
    (pairs 0 1 c (omega arith) (omega arith)) h (borders.edges 0 c (omega arith)) (omega (arith, linear, turn_back c b q)))

without_first : (c q a : Position) (L : List Position) → IsLeftOfEdges (c ∷ a ∷ L) q → Borders c q (a ∷ L)
without_first c q a L h =
    record {
      edges = λ k d l. let e : suc k + 1 ≡ suc (k + 1) = omega arith in
          subst (λ z. pos 0 ≤ℤ turn (get_or (a ∷ L) k d) (get_or (c ∷ a ∷ L) z d) q) e (h.edges (suc k) d (omega arith));
      closing = λ k d l. h.closing (suc k) d (omega arith);
    }

covered_from_edges : (L : List Position) (q : Position) → TurnsLeft L → 2 < length L → IsLeftOfEdges L q → Covers L q
covered_from_edges [] q t n h = absurd (omega arith)
covered_from_edges (c ∷ []) q t n h = absurd (omega arith)
covered_from_edges (c ∷ a ∷ []) q t n h = absurd (omega arith)
covered_from_edges (c ∷ a ∷ b ∷ L) q t n h =
    fan (c ∷ a ∷ b ∷ L) c q a b L (contains_first c (a ∷ b ∷ L)) (λ x m. contains_later c (a ∷ b ∷ L) x m) (round_head c (a ∷ b ∷ L) t)
    (without_first c q a (b ∷ L) h) (h.edges 0 c (omega arith))

-- ---- all corners lie to the left of each edge, or on it
module _ (L : List Position) (t : TurnsLeft L) where
  -- no corner lies on the right of an edge
  pub left_of_edge : (k : ℕ) (d : Position) → k + 1 < length L → (x : Position) → Contains L x → pos 0 ≤ℤ turn (get_or L k d) (get_or L (k + 1) d) x
  left_of_edge k d l x m =
      let at : get_or L m.0 d ≡ x = get_or_default L m.0 d x m.1 ∙ m.2 in
      subst (λ z. pos 0 ≤ℤ turn (get_or L k d) (get_or L (k + 1) d) z) at (go (in_order m.0 k) (in_order (k + 1) m.0))
    where
      go : (m.0 < k) ⊎ ((m.0 ≡ k) ⊎ (k < m.0)) → (k + 1 < m.0) ⊎ ((k + 1 ≡ m.0) ⊎ (m.0 < k + 1))
          → pos 0 ≤ℤ turn (get_or L k d) (get_or L (k + 1) d) (get_or L m.0 d)
      go (inl h) w = let p = t m.0 k (k + 1) d h (omega arith) l in omega (arith, linear, turn_cycle (get_or L m.0 d) (get_or L k d) (get_or L (k + 1) d))
      go (inr (inl e)) w = subst (λ z. pos 0 ≤ℤ turn (get_or L k d) (get_or L (k + 1) d) (get_or L z d)) (sym e)
          (omega (arith, linear, turn_self (get_or L k d) (get_or L (k + 1) d)))
      go (inr (inr h)) (inl w) = let p = t k (k + 1) m.0 d (omega arith) w m.1 in omega (arith, linear)
      go (inr (inr h)) (inr (inl e)) = subst (λ z. pos 0 ≤ℤ turn (get_or L k d) (get_or L (k + 1) d) (get_or L z d)) e
          (omega (arith, linear, turn_end (get_or L k d) (get_or L (k + 1) d)))
      go (inr (inr h)) (inr (inr w)) = absurd (omega arith)

  -- nor on the right of the closing edge
  pub left_of_closing : (k : ℕ) (d : Position) → k + 1 ≡ length L → (x : Position) → Contains L x → pos 0 ≤ℤ turn (get_or L k d) (get_or L 0 d) x
  left_of_closing k d l x m =
      let at : get_or L m.0 d ≡ x = get_or_default L m.0 d x m.1 ∙ m.2 in
      subst (λ z. pos 0 ≤ℤ turn (get_or L k d) (get_or L 0 d) z) at (go (in_order m.0 0) (in_order m.0 k))
    where
      go : (m.0 < 0) ⊎ ((m.0 ≡ 0) ⊎ (0 < m.0)) → (m.0 < k) ⊎ ((m.0 ≡ k) ⊎ (k < m.0)) → pos 0 ≤ℤ turn (get_or L k d) (get_or L 0 d) (get_or L m.0 d)
      go (inl h) w = absurd (omega arith)
      go (inr (inl e)) w = subst (λ z. pos 0 ≤ℤ turn (get_or L k d) (get_or L 0 d) (get_or L z d)) (sym e)
          (omega (arith, linear, turn_end (get_or L k d) (get_or L 0 d)))
      go (inr (inr h)) (inl w) =
          let p = t 0 m.0 k d h w (omega arith) in
          omega (arith, linear, turn_cycle (get_or L m.0 d) (get_or L k d) (get_or L 0 d), turn_cycle (get_or L 0 d) (get_or L m.0 d) (get_or L k d))
      go (inr (inr h)) (inr (inl e)) = subst (λ z. pos 0 ≤ℤ turn (get_or L k d) (get_or L 0 d) (get_or L z d)) (sym e)
          (omega (arith, linear, turn_self (get_or L k d) (get_or L 0 d)))
      go (inr (inr h)) (inr (inr w)) = let inside : m.0 < length L = m.1 in absurd (omega arith)

edges_from_covered : (L : List Position) (q : Position) → TurnsLeft L → Covers L q → IsLeftOfEdges L q
edges_from_covered L q t c =
    record {
      edges = λ k d l. in_half_plane L (get_or L k d) (get_or L (k + 1) d) q (left_of_edge L t k d l) c;
      closing = λ k d l. in_half_plane L (get_or L k d) (get_or L 0 d) q (left_of_closing L t k d l) c;
    }

-- corners that turn left cover what lies on the left of each edge, or on it
pub covered_if_left_of_edges : (L : List Position) (q : Position) → TurnsLeft L → 2 < length L → Covers L q ↔ IsLeftOfEdges L q
covered_if_left_of_edges L q t n = (edges_from_covered L q t, covered_from_edges L q t n)
