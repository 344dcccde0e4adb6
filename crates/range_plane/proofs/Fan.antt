-- A list whose first point comes before every other and sees them one after the other counterclockwise, and whose neighbours turn left, lists the corners of a
-- polygon; and corners are such a list.
use Rattle.std.proofs.Common.{◌≡◌, ◌≢◌, sym, ◌∙◌, subst, ℕ, zero, suc, ◌-◌, ◌<◌, ◌≤◌, pos, ◌<ℤ◌, inl, inr, List, [], ◌∷◌, length, AllPairs, arith}
use Rattle.std.proofs.Common.{eq-or-lt_of_le}
use Rattle.std.proofs.lemmas.List.{get_or_default}
use Rattle.range_plane.specs.Edges.{at, TurnsLeftAt}
use Rattle.range_plane.specs.Plane.{Position, turn, origin, IsAtMost, IsBefore}
use Rattle.range_plane.specs.Polygon.{BeginsWithLeast, TurnsLeft, IsPolygon}
use Rattle.range_plane.proofs.Corners.{polygon_by_covering}
use Rattle.range_plane.proofs.Ends.{first_least}
use Rattle.range_plane.proofs.Extremes.{covers_member}
use Rattle.range_lemmas.proofs.Integers.{linear}
use Rattle.range_lemmas.proofs.Members.{each}
use Rattle.range_plane.proofs.RisingDirection.{rising}
use Rattle.range_plane.proofs.AtMost.{at_most_itself}
use Rattle.range_plane.proofs.RoundLeast.{transitive_round}
use Rattle.range_plane.proofs.SpanningEdges.{at_member}
use Rattle.range_plane.proofs.Vectors.{dot, from, leftward, dot_leftward, turn_cycle, turn_end}

-- the whole test
pub record IsFan (L : List Position) : Type 0 where
  pub least : (i : ℕ) → 1 ≤ i → i < length L → IsBefore (at L 0) (at L i)
  pub left : (i : ℕ) → 2 ≤ i → i < length L → TurnsLeftAt L i

-- the order round c, among points on the left of the edge from b to c
round_left : (b c x y z : Position) → pos 0 <ℤ turn b c x → pos 0 <ℤ turn b c y → pos 0 <ℤ turn b c z → pos 0 <ℤ turn c x y → pos 0 <ℤ turn c y z
    → pos 0 <ℤ turn c x z
round_left b c x y z hx hy hz = transitive_round (leftward b c) c x y z (ahead x hx) (ahead y hy) (ahead z hz)
  where
    ahead : (p : Position) → pos 0 <ℤ turn b c p → pos 0 <ℤ dot (leftward b c) (from c p)
    ahead p h = omega (arith, linear, dot_leftward b c c p, turn_end b c)

-- where a, b, c and then b, c, e turn left, and o sees c after a and b and before e, a, c, e turn left
past_middle : (o a b c e : Position) → pos 0 <ℤ turn o a c → pos 0 <ℤ turn o b c → pos 0 <ℤ turn o c e → pos 0 <ℤ turn a b c → pos 0 <ℤ turn b c e
    → pos 0 <ℤ turn a c e
past_middle o a b c e oac obc oce abc bce =
    let t : pos 0 <ℤ turn c e a = round_left b c e o a bce (omega (arith, linear, turn_cycle o b c)) (omega (arith, linear, turn_cycle a b c))
    (omega (arith, linear, turn_cycle o c e)) (omega (arith, linear, turn_cycle o a c, turn_cycle a c o)) in
    omega (arith, linear, turn_cycle a c e)

module _ (L : List Position) (f : IsFan L) where
  ahead : (k : ℕ) → 0 < k → k < length L → pos 0 <ℤ dot (rising L).direction (from (at L 0) (at L k))
  ahead k h l = let b = f.least k h l in (rising L).ahead (at L 0) (at L k) (at_member L 0 (omega arith)) (at_member L k l) b.0 b.1

  next_round : (k : ℕ) → 0 < k → suc k < length L → pos 0 <ℤ turn (at L 0) (at L k) (at L (suc k))
  next_round k h l =
      let e : suc k - 1 ≡ k = omega arith in
      subst (λ (i : ℕ). pos 0 <ℤ turn (at L 0) (at L i) (at L (suc k))) e (f.left (suc k) (omega arith) l).0

  bend : (k : ℕ) → suc (suc k) < length L → pos 0 <ℤ turn (at L k) (at L (suc k)) (at L (suc (suc k)))
  bend k l =
      let e : suc (suc k) - 1 ≡ suc k = omega arith in
      let g : suc (suc k) - 2 ≡ k = omega arith in
      subst (λ (i : ℕ). pos 0 <ℤ turn (at L i) (at L (suc k)) (at L (suc (suc k)))) g
      (subst (λ (i : ℕ). pos 0 <ℤ turn (at L (suc (suc k) - 2)) (at L i) (at L (suc (suc k)))) e (f.left (suc (suc k)) (omega arith) l).1)

  -- each point by each later one, the index of the last one at a time
  round_first : (i k : ℕ) → 0 < i → i < k → k < length L → pos 0 <ℤ turn (at L 0) (at L i) (at L k)
  round_first i zero h g l = absurd (omega arith)
  round_first i (suc k) h g l =
      elim (eq-or-lt_of_le (let le : i ≤ k = omega arith in le)) [
        | inl e ↦ subst (λ (j : ℕ). pos 0 <ℤ turn (at L 0) (at L j) (at L (suc k))) (sym e) (next_round k (omega arith) l)
        | inr lt ↦ transitive_round (rising L).direction (at L 0) (at L i) (at L k) (at L (suc k)) (ahead i h (omega arith))
            (ahead k (omega arith) (omega arith)) (ahead (suc k) (omega arith) l) (round_first i k h lt (omega arith)) (next_round k (omega arith) l)
      ]

  left_of_edge : (i k : ℕ) → 0 < i → i < k → suc k < length L → pos 0 <ℤ turn (at L i) (at L k) (at L (suc k))
  left_of_edge i zero h g l = absurd (omega arith)
  left_of_edge i (suc k) h g l =
      elim (eq-or-lt_of_le (let le : i ≤ k = omega arith in le)) [
        | inl e ↦ subst (λ (j : ℕ). pos 0 <ℤ turn (at L j) (at L (suc k)) (at L (suc (suc k)))) (sym e) (bend k l)
        | inr lt ↦ past_middle (at L 0) (at L i) (at L k) (at L (suc k)) (at L (suc (suc k))) (round_first i (suc k) h g (omega arith))
            (round_first k (suc k) (omega arith) (omega arith) (omega arith)) (next_round (suc k) (omega arith) l) (left_of_edge i k h lt (omega arith))
            (bend k l)
      ]

  -- the points after one lie on the left of the line to it from the first, so their order round it is transitive
  turns_after : (i j k : ℕ) → 0 < i → i < j → j < k → k < length L → pos 0 <ℤ turn (at L i) (at L j) (at L k)
  turns_after i j zero h g n l = absurd (omega arith)
  turns_after i j (suc k) h g n l =
      elim (eq-or-lt_of_le (let le : j ≤ k = omega arith in le)) [
        | inl e ↦ subst (λ (m : ℕ). pos 0 <ℤ turn (at L i) (at L m) (at L (suc k))) (sym e) (left_of_edge i k h (omega arith) l)
        | inr lt ↦ round_left (at L 0) (at L i) (at L j) (at L k) (at L (suc k)) (round_first i j h g (omega arith))
            (round_first i k h (omega arith) (omega arith)) (round_first i (suc k) h (omega arith) l) (turns_after i j k h g lt (omega arith))
            (left_of_edge i k h (omega arith) l)
      ]

  turns : (i j k : ℕ) → i < j → j < k → k < length L → pos 0 <ℤ turn (at L i) (at L j) (at L k)
  turns zero j k g n l = round_first j k g n l
  turns (suc i) j k g n l = turns_after (suc i) j k (omega arith) g n l

  corners_differ : (i j : ℕ) → i < j → j < length L → at L i ≢ at L j
  corners_differ zero j h l = (f.least j h l).1
  corners_differ (suc i) j h l = λ e. let t : pos 0 <ℤ turn (at L 0) (at L j) (at L j) =
      subst (λ (x : Position). pos 0 <ℤ turn (at L 0) x (at L j)) e (round_first (suc i) j (omega arith) h l) in
      omega (arith, linear, turn_end (at L 0) (at L j))

  fan_convex : TurnsLeft L
  fan_convex i j k d g h n = rw (get_or_default L i d origin (omega arith), get_or_default L j d origin (omega arith), get_or_default L k d origin n)
      (turns i j k g h n)

  fan_distinct : AllPairs (λ a b. a ≢ b) L
  fan_distinct i j d h k = rw (get_or_default L i d origin (omega arith), get_or_default L j d origin k) (corners_differ i j h k)

fan_least : (L : List Position) → IsFan L → BeginsWithLeast L
fan_least [] f = tt
fan_least (c ∷ L) f = each (IsAtMost c) c L (at_most_itself c) (λ x m. subst (IsAtMost c) (get_or_default L m.0 origin x m.1 ∙ m.2)
    (f.least (suc m.0) (omega arith) (omega (arith, m.1))).0)

-- corners that turn left round the first of them are a polygon, and the other way round
pub polygon_of_fan : (L : List Position) → IsFan L → IsPolygon L L
polygon_of_fan L f = polygon_by_covering L L (λ x m. m) (λ x m. covers_member L x m) (fan_distinct L f) (fan_least L f) (fan_convex L f)

-- a list that is the polygon of itself meets the whole test
pub fan_of_polygon : (L : List Position) → IsPolygon L L → IsFan L
fan_of_polygon L p = record {
  least = λ i h l. (first_least L p.least_first (at L i) (at_member L i l), p.distinct 0 i origin h l);
  left = λ i h l. (p.convex 0 (i - 1) i origin (omega arith) (omega arith) l, p.convex (i - 2) (i - 1) i origin (omega arith) (omega arith) l);
}
