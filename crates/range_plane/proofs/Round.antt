-- A list that goes round the least point through the corners among the first points, one point after the other: in the end it is the polygon, and so each set
-- has one.
use Rattle.std.proofs.Common.{◌≡◌, ◌≢◌, ◌+◌, ◌<◌, ◌≤◌, ◌⊎◌, inl, inr, ℕ, zero, suc, pos, ◌<ℤ◌, ◌≤ℤ◌, List, [], ◌∷◌, ◌++◌, AllPairs, Contains, length, take}
use Rattle.std.proofs.Common.{drop, get_or, refl, sym, ◌∙◌, subst, ap, arith, eq-or-lt_of_le}
use Rattle.std.proofs.lemmas.Int.{by_lt_z}
use Rattle.std.proofs.lemmas.List.{get_or_default, get_or_read}
use Rattle.std.proofs.lemmas.List.Elements.{Contains-get_or}
use Rattle.range_plane.specs.Plane.{Position, origin, turn, IsAtMost}
use Rattle.range_plane.specs.ConvexCover.{Covers}
use Rattle.range_plane.specs.Polygon.{IsExtreme, IsLeast, IsPolygon, without}
use Rattle.range_lemmas.proofs.Integers.{linear}
use Rattle.range_lemmas.proofs.Members.{contains_first, contains_later, empty_contains_nothing, contained, each}
use Rattle.range_plane.proofs.RisingDirection.{rising}
use Rattle.range_plane.proofs.AtMost.{at_most_itself, at_most_one_way, through_most}
use Rattle.range_plane.proofs.RoundLeast.{ahead, one_before, pairs_with, polygon_round, transitive_round}
use Rattle.range_plane.proofs.Separation.{IsSeparated, covered_or_separated, not_both}
use Rattle.range_plane.proofs.Without.{equal_or_apart}
use Rattle.range_plane.proofs.Unique.{from_head, in_rest}

-- a list with x put in at an index
abbrev pub put : List Position → ℕ → Position → List Position
put R k x = take k R ++ x ∷ drop k R

-- what it has
put_has : (R : List Position) (k : ℕ) (x y : Position) → Contains (put R k x) y → (y ≡ x) ⊎ Contains R y
put_has R zero x y m = contained x R y m
put_has [] (suc k) x y m = contained x [] y m
put_has (r ∷ R) (suc k) x y m = elim (contained r (put R k x) y m) [
  | inl e ↦ inr (subst (Contains (r ∷ R)) (sym e) (contains_first r R))
  | inr n ↦ elim (put_has R k x y n) [ inl e ↦ inl e | inr o ↦ inr (contains_later r R y o) ]
]

put_new : (R : List Position) (k : ℕ) (x : Position) → Contains (put R k x) x
put_new R zero x = contains_first x R
put_new [] (suc k) x = contains_first x []
put_new (r ∷ R) (suc k) x = contains_later r (put R k x) x (put_new R k x)

put_old : (R : List Position) (k : ℕ) (x y : Position) → Contains R y → Contains (put R k x) y
put_old R zero x y m = contains_later x R y m
put_old [] (suc k) x y m = absurd (empty_contains_nothing y m)
put_old (r ∷ R) (suc k) x y m = each (Contains (r ∷ put R k x)) r R (contains_first r (put R k x))
    (λ z n. contains_later r (put R k x) z (put_old R k x z n)) y m

-- a corner other than c
abbrev pub IsOther : List Position → Position → Position → Type 0
IsOther S c x = IsExtreme S x × (x ≢ c)

-- the list begins with c, and goes round it through the corners among the first n points
pub record IsRound (S : List Position) (c : Position) (n : ℕ) (L : List Position) : Type 0 where
  pub first : L ≡ c ∷ drop 1 L
  pub others : (x : Position) → Contains (drop 1 L) x → IsOther S c x
  pub all : (k : ℕ) → k < n → IsOther S c (get_or S k origin) → Contains (drop 1 L) (get_or S k origin)
  pub pairs : AllPairs (λ x y. pos 0 <ℤ turn c x y) (drop 1 L)

module _ (S : List Position) (c : Position) (l : IsLeast S c) where
  abbrev InOrder : Position → Position → Type 0
  InOrder x y = pos 0 <ℤ turn c x y

  put_pairs : (R : List Position) (k : ℕ) (x : Position) → IsOther S c x → ((y : Position) → Contains R y → IsOther S c y)
      → ((y : Position) → Contains R y → x ≢ y) → AllPairs InOrder R
      → ((j : ℕ) → j < k → j < length R → pos 0 <ℤ turn c (get_or R j origin) x) → (k < length R → turn c (get_or R k origin) x ≤ℤ pos 0)
      → AllPairs InOrder (put R k x)
  put_pairs [] zero x ox oR new pairs before after = pairs_with InOrder x [] (λ y m. absurd (empty_contains_nothing y m)) pairs
  put_pairs [] (suc k) x ox oR new pairs before after = pairs_with InOrder x [] (λ y m. absurd (empty_contains_nothing y m)) pairs
  put_pairs (r ∷ R) zero x ox oR new pairs before after =
      let direction = (rising S).direction in
      let not_after = after (omega arith) in
      let first : InOrder x r = elim (one_before S c l x r ox.0 (oR r (contains_first r R)).0 ox.1 (oR r (contains_first r R)).1
      (new r (contains_first r R))) [ inl h ↦ h | inr h ↦ absurd (omega (arith, linear)) ] in
      let rest : (z : Position) → Contains R z → InOrder x z = λ z m.
      transitive_round direction c x r z (ahead S c l x ox.0.member ox.1) (ahead S c l r (oR r (contains_first r R)).0.member (oR r (contains_first r R)).1)
      (ahead S c l z (oR z (contains_later r R z m)).0.member (oR z (contains_later r R z m)).1)
      first (from_head InOrder r R pairs z m) in
      pairs_with InOrder x (r ∷ R) (each (InOrder x) r R first rest) pairs
  put_pairs (r ∷ R) (suc k) x ox oR new pairs before after =
      let more = put_pairs R k x ox (λ y m. oR y (contains_later r R y m)) (λ y m. new y (contains_later r R y m)) (in_rest InOrder r R pairs)
      (λ j h w. before (suc j) (omega arith) (omega arith)) (λ w. after (omega arith)) in
      pairs_with InOrder r (put R k x) (λ z m. elim (put_has R k x z m) [
        | inl e ↦ subst (InOrder r) (sym e) (before 0 (omega arith) (omega arith))
        | inr n ↦ from_head InOrder r R pairs z n
      ]) more

  pub round_start : IsRound S c 0 (c ∷ [])
  round_start = record {
    first = refl;
    others = λ x m. absurd (empty_contains_nothing x m);
    all = λ k h. absurd (omega arith);
    pairs =
        λ i j d h k. absurd (omega arith);
  }

  below : (n k : ℕ) → k < n + 1 → (k < n) ⊎ (k ≡ n)
  below n k h = elim (eq-or-lt_of_le (let g : k ≤ n = omega arith in g)) [ inl e ↦ inr e | inr lt ↦ inl lt ]

  -- the next point is no new corner
  pub round_same : (n : ℕ) (L : List Position) (p : Position) → IsRound S c n L → n < length S → p ≡ get_or S n p → (IsOther S c p → Contains (drop 1 L) p)
      → IsRound S c (n + 1) L
  round_same n L p r within is old = record {
    first = r.first;
    others = r.others;
    all = λ k h. elim (below n k h) [
      | inl lt ↦ r.all k lt
      | inr e ↦ let same : p ≡ get_or S k origin = get_or_read S n p within is origin
          ∙ ap (λ j. get_or S j origin) (sym e) in subst (λ x. IsOther S c x → Contains (drop 1 L) x) same old
    ];
    pairs = r.pairs;
  }

  -- the next point is a new corner, put at its index
  pub round_next : (n : ℕ) (R : List Position) (k : ℕ) (p : Position) → IsRound S c n (c ∷ R) → n < length S → p ≡ get_or S n p → IsOther S c p
      → ((y : Position) → Contains R y → p ≢ y)
      → ((j : ℕ) → j < k → j < length R → pos 0 <ℤ turn c (get_or R j origin) p) → (k < length R → turn c (get_or R k origin) p ≤ℤ pos 0)
      → IsRound S c (n + 1) (c ∷ put R k p)
  round_next n R k p r within is other new before after = record {
    first = refl;
    others = λ x m. elim (put_has R k p x m) [ inl e ↦ subst (IsOther S c) (sym e) other | inr o ↦ r.others x o ];
    all = λ j h o. elim (below n j h) [
      | inl lt ↦ put_old R k p (get_or S j origin) (r.all j lt o)
      | inr e ↦ let same : p ≡ get_or S j origin = get_or_read S n p within is origin
          ∙ ap (λ i. get_or S i origin) (sym e) in subst (Contains (put R k p)) same (put_new R k p)
    ];
    pairs = put_pairs R k p other r.others new r.pairs before after;
  }

  -- after all points it is the polygon
  pub round_all : (n : ℕ) (L : List Position) → IsRound S c n L → length S ≤ n → IsPolygon S L
  round_all n L r all = subst (IsPolygon S) (sym r.first) (polygon_round S c l (drop 1 L) (λ x. (r.others x, corner x)) r.pairs)
    where
      corner : (x : Position) → IsOther S c x → Contains (drop 1 L) x
      corner x o =
          let m = o.0.member in
          let same : get_or S m.0 origin ≡ x = get_or_default S m.0 origin x m.1 ∙ m.2 in
          subst (Contains (drop 1 L)) same (r.all m.0 (omega (arith, m.1)) (subst (IsOther S c) (sym same) o))

  -- ---- such a list for each set
  -- where x goes: behind those that come before it
  index_for : (R : List Position) (x : Position) → (k : ℕ) × ((j : ℕ) → j < k → j < length R → InOrder (get_or R j origin) x)
      × (k < length R → turn c (get_or R k origin) x ≤ℤ pos 0)
  index_for [] x = (0, λ j h w. absurd (omega arith), λ w. absurd (omega arith))
  index_for (r ∷ R) x = by_lt_z (pos 0) (turn c r x) (λ h. behind h (index_for R x)) (λ h. (0, λ j g w. absurd (omega arith), λ w. h))
    where
      behind : InOrder r x → ((k : ℕ) × ((j : ℕ) → j < k → j < length R → InOrder (get_or R j origin) x)
          × (k < length R → turn c (get_or R k origin) x ≤ℤ pos 0))
          → (k : ℕ) × ((j : ℕ) → j < k → j < length (r ∷ R) → InOrder (get_or (r ∷ R) j origin) x)
          × (k < length (r ∷ R) → turn c (get_or (r ∷ R) k origin) x ≤ℤ pos 0)
      behind h f = (suc f.0, before, λ w. f.2 (omega arith))
        where
          before : (j : ℕ) → j < suc f.0 → j < length (r ∷ R) → InOrder (get_or (r ∷ R) j origin) x
          before zero g w = h
          before (suc j) g w = f.1 j (omega arith) (omega arith)

  among : (x : Position) (R : List Position) → Contains R x ⊎ ((y : Position) → Contains R y → x ≢ y)
  among x [] = inr (λ y m. absurd (empty_contains_nothing y m))
  among x (r ∷ R) = go (equal_or_apart x r) (among x R)
    where
      go : (x ≡ r) ⊎ (x ≢ r) → Contains R x ⊎ ((y : Position) → Contains R y → x ≢ y) → Contains (r ∷ R) x ⊎ ((y : Position) → Contains (r ∷ R) y → x ≢ y)
      go (inl e) m = inl (subst (Contains (r ∷ R)) (sym e) (contains_first r R))
      go (inr a) (inl m) = inl (contains_later r R x m)
      go (inr a) (inr m) = inr (each (λ y. x ≢ y) r R a m)

  step : (n : ℕ) (R : List Position) → n < length S → IsRound S c n (c ∷ R) → (R' : List Position) × IsRound S c (n + 1) (c ∷ R')
  step n R within r = go (equal_or_apart p c) (covered_or_separated (without p S) p) (among p R)
    where
      p : Position
      p = get_or S n origin

      is : p ≡ get_or S n p
      is = get_or_default S n origin p within

      go : (p ≡ c) ⊎ (p ≢ c) → Covers (without p S) p ⊎ IsSeparated (without p S) p → Contains R p ⊎ ((y : Position) → Contains R y → p ≢ y)
          → (R' : List Position) × IsRound S c (n + 1) (c ∷ R')
      go (inl e) w m = (R, round_same n (c ∷ R) p r within is (λ o. absurd (o.1 e)))
      go (inr a) (inl h) m = (R, round_same n (c ∷ R) p r within is (λ o. absurd (o.0.needed h)))
      go (inr a) (inr s) (inl m) = (R, round_same n (c ∷ R) p r within is (λ o. m))
      go (inr a) (inr s) (inr new) =
          let k = index_for R p in (
            put R k.0 p,
            round_next n R k.0 p r within is (
              record {
                member = Contains-get_or S n origin within;
                needed =
                    λ h. not_both (without p S) p s.direction h s.ahead;
              },
              a,
            ) new k.1 k.2,
          )

  rounds : (n : ℕ) → n ≤ length S → (R : List Position) × IsRound S c n (c ∷ R)
  rounds zero h = ([], round_start)
  rounds (suc n) h =
      let r = rounds n (omega arith) in
      let t = step n r.0 (omega arith) r.1 in
      (t.0, subst (λ m. IsRound S c m (c ∷ t.0)) (let e : n + 1 ≡ suc n = omega arith in e) t.1)

  pub polygon_from_least : (L : List Position) × IsPolygon S L
  polygon_from_least = let r = rounds (length S) (omega arith) in (c ∷ r.0, round_all (length S) (c ∷ r.0) r.1 (omega arith))

least_of : (s : Position) (S : List Position) → (c : Position) × IsLeast (s ∷ S) c
least_of s [] = (s, record { member = contains_first s []; least = each (IsAtMost s) s [] (at_most_itself s) (λ x m. absurd (empty_contains_nothing x m)) })
least_of s (t ∷ S) = go (least_of t S)
  where
    go : ((c : Position) × IsLeast (t ∷ S) c) → (c : Position) × IsLeast (s ∷ t ∷ S) c
    go (c, l) = pick (at_most_one_way s c)
      where
        pick : IsAtMost s c ⊎ IsAtMost c s → (c : Position) × IsLeast (s ∷ t ∷ S) c
        pick (inl h) = (
          s,
          record {
            member = contains_first s (t ∷ S);
            least =
                each (IsAtMost s) s (t ∷ S) (at_most_itself s) (λ x m. through_most s c x h (l.least x m));
          },
        )
        pick (inr h) = (c, record { member = contains_later s (t ∷ S) c l.member; least = each (IsAtMost c) s (t ∷ S) h l.least })

-- every finite set has a polygon
pub polygon_of : (S : List Position) → (L : List Position) × IsPolygon S L
polygon_of [] = (
  [],
  record {
    corners = λ x. (λ m. absurd (empty_contains_nothing x m), λ e. absurd (empty_contains_nothing x e.member));
    distinct =
        λ i j d h k. absurd (omega arith);
    least_first = tt;
    convex = λ i j k d g h n. absurd (omega arith);
  },
)
polygon_of (s ∷ S) = let c = least_of s S in polygon_from_least (s ∷ S) c.0 c.1

-- the list goes round its first member, which is the least of the set, through the corners among the first n points
pub record GoesRound (S : List Position) (n : ℕ) (L : List Position) : Type 0 where
  pub least : IsLeast S (get_or L 0 origin)
  pub round : IsRound S (get_or L 0 origin) n L

-- at first there is the least point alone
pub goes_start : (S : List Position) (c : Position) → IsLeast S c → GoesRound S 0 (c ∷ [])
goes_start S c l = record { least = l; round = round_start S c l }

-- the next point is a corner already, or the others cover it
pub goes_same : (S : List Position) (n : ℕ) (L : List Position) (p : Position) → GoesRound S n L → n < length S → p ≡ get_or S n p → Contains L p
    ⊎ Covers (without p S) p → GoesRound S (n + 1) L
goes_same S n [] p r within is old = cc r.round.first
goes_same S n (c ∷ R) p r within is old = record { least = r.least; round = round_same S c r.least n (c ∷ R) p r.round within is (λ o. by o old) }
  where
    by : IsOther S c p → Contains (c ∷ R) p ⊎ Covers (without p S) p → Contains R p
    by o (inl m) = elim (contained c R p m) [ inl e ↦ absurd (o.1 e) | inr n ↦ n ]
    by o (inr covered) = absurd (o.0.needed covered)

-- the next point is a new corner, put where it goes round the first
pub goes_next : (S : List Position) (n : ℕ) (L : List Position) (index : ℕ) (p : Position) → GoesRound S n L → n < length S → p ≡ get_or S n p
    → ¬ (Contains L p) → ¬ (Covers (without p S) p)
    → 0 < index → ((k : ℕ) → 0 < k → k < index → pos 0 <ℤ turn (get_or L 0 origin) (get_or L k origin) p)
    → (index < length L → turn (get_or L 0 origin) (get_or L index origin) p ≤ℤ pos 0)
    → GoesRound S (n + 1) (put L index p)
goes_next S n [] index p r within is new needed some before after = cc r.round.first
goes_next S n (c ∷ R) zero p r within is new needed some before after = absurd (omega arith)
goes_next S n (c ∷ R) (suc k) p r within is new needed some before after = record {
  least = r.least;
  round = round_next S c r.least n R k p r.round within is
      (record { member = (n, within, sym is); needed = needed }, λ e. new (subst (Contains (c ∷ R)) (sym e) (contains_first c R)))
      (λ y m e. new (subst (Contains (c ∷ R)) (sym e) (contains_later c R y m)))
      (λ j h w. before (suc j) (omega arith) (omega arith)) (λ w. after (omega arith));
}

-- after all points it is the polygon
pub goes_all : (S : List Position) (n : ℕ) (L : List Position) → GoesRound S n L → length S ≤ n → IsPolygon S L
goes_all S n L r all = round_all S (get_or L 0 origin) r.least n L r.round all

-- there is a first corner at all times
pub goes_some : (S : List Position) (n : ℕ) (L : List Position) → GoesRound S n L → 0 < length L
goes_some S n [] r = cc r.round.first
goes_some S n (c ∷ R) r = omega arith
