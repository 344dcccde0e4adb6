-- The edges of a polygon, tried one after another, and what they decide.
use Rattle.std.proofs.Common.{◌≡◌, refl, ℕ, zero, suc, ◌+◌, ◌-◌, ◌<◌, ◌≤◌, pos, ◌≤ℤ◌, ℤ, Bool, true, add-one, ◌&&◌, List, [], ◌∷◌, length, arith}
use Rattle.std.proofs.lemmas.List.{get_or_default}
use borrow.Author.Count.{below_more}
use Rattle.std.specs.Bool.{Decides}
use Rattle.std.proofs.lemmas.Int.{ints}
use Rattle.std.proofs.lemmas.Bool.Decides.{Decides-and, Decides-like, same_from_decides}
use Rattle.range_plane.specs.ConvexCover.{IsLeftOfEdges, is_covered, is_on_segment}
use Rattle.range_plane.specs.ConvexCover.Covers.{by_segment}
use Rattle.range_plane.specs.Edges.{at}
use Rattle.range_plane.specs.Plane.{Position, origin, turn}
use Rattle.range_plane.specs.Polygon.{IsPolygon}
use Rattle.range_plane.proofs.ForCallers.{covered_is_decided, larger_sets_cover_more, many_cover_the_left_of_their_edges, on_segment_is_decided, two_cover_their_segment}
use Rattle.range_lanes.specs.EdgeLines.{corner_before}
use Rattle.range_lanes.specs.Lanes.{is_not_negative}

not_negative_decided : (x : ℤ) → Decides (is_not_negative x) (pos 0 ≤ℤ x)
not_negative_decided x = (λ e. omega (arith, ints, e), λ h. grind (arith, ints))

-- q is on the left of the way from a to b, or on it, as a test
abbrev pub is_left : Position → Position → Position → Bool
is_left a b q = is_not_negative (turn a b q)

-- q is on the left of the edges that end at the first k corners, or on them
abbrev pub is_left_of_first : List Position → ℕ → Position → Bool
is_left_of_first L zero q = true
is_left_of_first L (suc k) q = is_left_of_first L k q && is_left (corner_before L k) (at L k) q

abbrev IsLeftOfFirst : List Position → ℕ → Position → Type 0
IsLeftOfFirst L n q = (k : ℕ) → k < n → pos 0 ≤ℤ turn (corner_before L k) (at L k) q

first_decided : (L : List Position) (n : ℕ) (q : Position) → Decides (is_left_of_first L n q) (IsLeftOfFirst L n q)
first_decided L zero q = (λ e k l. absurd (omega arith), λ h. refl)
first_decided L (suc n) q =
    Decides-like _ (λ h k l. below_more (λ k. pos 0 ≤ℤ turn (corner_before L k) (at L k) q) n h.0 h.1 k (omega arith))
    (λ f. (λ k l. f k (omega arith), f n (omega arith)))
    (Decides-and _ _ (first_decided L n q) (not_negative_decided (turn (corner_before L n) (at L n) q)))

left_of_all : (L : List Position) (q : Position) → IsLeftOfFirst L (length L) q → IsLeftOfEdges L q
left_of_all L q h =
    record {
      edges = λ k d l. rw (get_or_default L k d origin (omega arith), get_or_default L (k + 1) d origin l, add-one) (h (suc k) (omega arith));
      closing = λ k d l. let e : k ≡ length L - 1 = omega arith in
          rw (get_or_default L k d origin (omega arith), get_or_default L 0 d origin (omega arith), e) (h 0 (omega arith));
    }

left_of_first : (L : List Position) (q : Position) → 0 < length L → IsLeftOfEdges L q → IsLeftOfFirst L (length L) q
left_of_first L q some h zero l = h.closing (length L - 1) origin (omega arith)
left_of_first L q some h (suc k) l = rw (← add-one) (h.edges k origin (omega arith))

-- ---- what corners cover, by the laws of the plane
-- three or more corners cover what is on the left of each edge
pub many_cover : (L : List Position) (q : Position) → IsPolygon L L → 2 < length L → is_left_of_first L (length L) q ≡ is_covered L q
many_cover L q p many =
    let all = many_cover_the_left_of_their_edges L L p many q in
    same_from_decides _ _ (Decides-like _ (left_of_all L q) (left_of_first L q (omega arith)) (first_decided L (length L) q))
    (Decides-like _ all.0 all.1 (covered_is_decided L q))

-- one or two corners cover the segment from the first to the last
pub few_cover : (L : List Position) (a b q : Position) → 0 < length L → length L ≤ 2 → a ≡ at L 0 → b ≡ at L (length L - 1)
    → is_on_segment q a b ≡ is_covered L q
few_cover [] a b q some few ea eb = absurd (omega arith)
few_cover (x ∷ []) a b q some few ea eb =
    rw (ea, eb) (same_from_decides _ _ (on_segment_is_decided q x x)
    (Decides-like _ (λ c. (two_cover_their_segment x x q).0 (larger_sets_cover_more (x ∷ []) (x ∷ x ∷ []) q (λ s m. (suc m.0, omega (arith, m.1), m.2)) c))
    (λ h. by_segment x x (0, omega arith, refl) (0, omega arith, refl) h) (covered_is_decided (x ∷ []) q)))
few_cover (x ∷ y ∷ []) a b q some few ea eb =
    rw (ea, eb) (same_from_decides _ _ (on_segment_is_decided q x y) (Decides-like _ (two_cover_their_segment x y q).0 (two_cover_their_segment x y q).1
    (covered_is_decided (x ∷ y ∷ []) q)))
few_cover (x ∷ y ∷ z ∷ L) a b q some few ea eb = absurd (omega arith)
