-- Indices in pieces, and where a point falls among points that rise.
use Rattle.std.proofs.Common.{◌≡◌, sym, ap, subst, ℕ, zero, suc, ◌+◌, ◌-◌, ◌*◌, ◌/◌, ◌<◌, ◌≤◌, ◌<ℤ◌, ◌≤ℤ◌, ◌⊎◌, inl, inr, List, [], ◌∷◌, length, get_or, arith}
use Rattle.std.proofs.Common.{eq-or-lt_of_le}
use Rattle.std.proofs.lemmas.Bool.{cases_lt}
use Rattle.std.proofs.lemmas.List.{append-nil, get_or_read}
use Rattle.range_plane.specs.Edges.{at}
use Rattle.range_plane.specs.Order.{rank}
use Rattle.range_plane.specs.Plane.{Position, origin}
use Rattle.range_lemmas.proofs.Integers.{linear}
use Rattle.range_pieces.specs.declared.cursor.Cursor.{Cursor}
use Rattle.range_pieces.specs.Pieces.{IsCut, all_points, piece, offset}
use Rattle.range_pieces.specs.PointList.{FallsAt, IsRising, Stands, index}
use Rattle.range_pieces.specs.RisingPoints.{IsBetween, Rises, first_of}
use Rattle.range_pieces.proofs.Joins.{get_or_joined, offset_more, offset_all, offset_within}

-- ---- offsets
offset_steps : (bs : List (List Position)) (i d : ℕ) → offset bs i ≤ offset bs (i + d)
offset_steps bs i zero = omega (arith, ap (offset bs) (let e : i + 0 ≡ i = omega arith in e))
offset_steps bs i (suc d) =
    let e : offset bs (i + suc d) ≡ offset bs (i + d + 1) = ap (offset bs) (let f : i + suc d ≡ i + d + 1 = omega arith in f) in
    elim (cases_lt (i + d) (length bs)) [
      | inl l ↦ omega (arith, e, offset_steps bs i d, offset_more bs (i + d) l)
      | inr g ↦ omega (arith, e, offset_steps bs i d, offset_all bs (i + d) g, offset_all bs (i + d + 1) (omega (arith, g)))
    ]

pub offset_later : (bs : List (List Position)) (i j : ℕ) → i ≤ j → offset bs i ≤ offset bs j
offset_later bs i j h = omega (arith, offset_steps bs i (j - i), ap (offset bs) (let e : i + (j - i) ≡ j = omega arith in e))

-- one piece is the whole list
pub one_piece : (bs : List (List Position)) → length bs ≡ 1 → all_points bs ≡ piece bs 0
one_piece [] e = absurd (omega (arith, e))
one_piece (b ∷ []) e = append-nil b
one_piece (b ∷ c ∷ bs) e = absurd (omega (arith, e))

-- ---- cursors
-- a cursor after the last piece has all points before it
pub index_at_end : (bs : List (List Position)) (c : Cursor) → Stands bs c → c.piece ≡ length bs → index bs c ≡ length (all_points bs)
index_at_end bs c s e = omega (arith, offset_all bs c.piece (omega (arith, e)), s.at_end e)

-- the index of a cursor in a piece is less than the number of points
pub index_before_end : (bs : List (List Position)) (c : Cursor) → Stands bs c → c.piece < length bs → index bs c < length (all_points bs)
index_before_end bs c s h = omega (arith, s.before_point h, offset_more bs c.piece h, offset_within bs (c.piece + 1))

-- the index of a cursor is at most the number of points
pub index_within : (bs : List (List Position)) (c : Cursor) → Stands bs c → index bs c ≤ length (all_points bs)
index_within bs c s =
    elim (eq-or-lt_of_le s.bound) [
      | inl e ↦ omega (arith, index_at_end bs c s e)
      | inr l ↦ omega (arith, index_before_end bs c s l)
    ]

-- a cursor whose index is less than the number of points stands in a piece
pub is_in_piece : (bs : List (List Position)) (c : Cursor) → Stands bs c → index bs c < length (all_points bs) → c.piece < length bs
is_in_piece bs c s h =
    elim (eq-or-lt_of_le s.bound) [
      | inl e ↦ absurd (omega (arith, h, index_at_end bs c s e))
      | inr l ↦ l
    ]

-- a cursor after all points stands at no piece
pub is_last : (bs : List (List Position)) (c : Cursor) → Stands bs c → index bs c ≡ length (all_points bs) → c.piece ≡ length bs
is_last bs c s h =
    elim (eq-or-lt_of_le s.bound) [
      | inl e ↦ e
      | inr l ↦ absurd (omega (arith, h, index_before_end bs c s l))
    ]

-- a cursor before all points stands at the first piece
pub is_first : (bs : List (List Position)) (c : Cursor) → IsCut bs 0 0 → Stands bs c → index bs c ≡ 0 → c.piece ≡ 0
is_first bs c cut s h =
    elim (cases_lt 0 c.piece) [
      | inl l ↦
          let some : 0 < length bs = omega (arith, l, s.bound) in
          absurd (omega (
            arith,
            h,
            offset_later bs 1 c.piece (omega (arith, l)),
            offset_more bs 0 some,
            cut.filled 0 some,
            ap (offset bs) (let e : 0 + 1 ≡ 1 = omega arith in e),
          ))
      | inr g ↦ omega (arith, g)
    ]

-- of two cursors the one before stands in an earlier piece, or earlier in the same
pub stand_in_order : (bs : List (List Position)) (a b : Cursor) → Stands bs a → Stands bs b → index bs a ≤ index bs b → (a.piece < b.piece)
    ⊎ ((a.piece ≡ b.piece) × (a.within ≤ b.within))
stand_in_order bs a b s t h =
    elim (cases_lt b.piece a.piece) [
      | inl l ↦
          let k : b.piece < length bs = omega (arith, l, s.bound) in
          absurd (omega (arith, h, t.before_point k, offset_more bs b.piece k, offset_later bs (b.piece + 1) a.piece (omega (arith, l))))
      | inr g ↦ elim (eq-or-lt_of_le g) [
        | inl e ↦ inr (e, omega (arith, h, ap (offset bs) e))
        | inr l ↦ inl l
      ]
    ]

-- ---- points that rise
-- what is read at an index within the list is the point there, whatever the default
pub read : (L : List Position) (q : Position) (i : ℕ) → i < length L → q ≡ get_or L i q → q ≡ at L i
read L q i k e = get_or_read L i q k e origin

pub all_before : (L : List Position) (p : Position) (m : ℕ) → IsRising L → m < length L → rank (at L m) <ℤ rank p → (i : ℕ) → i < m + 1
    → rank (at L i) <ℤ rank p
all_before L p m c k h i l =
    elim (cases_lt i m) [
      | inl lt ↦ let u : rank (at L i) <ℤ rank (at L m) = c i m lt k in omega (arith, linear)
      | inr g ↦ subst (λ (x : ℕ). rank (at L x) <ℤ rank p) (let e : m ≡ i = omega (arith, g, l) in e) h
    ]

pub all_after : (L : List Position) (p : Position) (m : ℕ) → IsRising L → rank p ≤ℤ rank (at L m) → (i : ℕ) → m ≤ i → i < length L → rank p ≤ℤ rank (at L i)
all_after L p m c h i g k =
    elim (eq-or-lt_of_le g) [
      | inl e ↦ subst (λ (x : ℕ). rank p ≤ℤ rank (at L x)) e h
      | inr lt ↦ let u : rank (at L m) <ℤ rank (at L i) = c m i lt k in omega (arith, linear)
    ]

-- ---- a search among n points that rise
-- r is `step` where point k comes before p, else 0
abbrev pub Counts : (ℕ → Position) → Position → ℕ → ℕ → ℕ → Type 0
Counts f p k step r = ((r ≡ step) × (rank (f k) <ℤ rank p)) ⊎ ((r ≡ 0) × (rank p ≤ℤ rank (f k)))

-- what a probe says of point k, where x is that point
pub counted : (f : ℕ → Position) (p x : Position) (k step r : ℕ) → x ≡ f k → ((r ≡ step) × (rank x <ℤ rank p)) ⊎ ((r ≡ 0) × (rank p ≤ℤ rank x))
    → Counts f p k step r
counted f p x k step r e h = subst (λ (y : Position). ((r ≡ step) × (rank y <ℤ rank p)) ⊎ ((r ≡ 0) × (rank p ≤ℤ rank y))) e h

later : (f : ℕ → Position) (n : ℕ) (p : Position) (m i : ℕ) → Rises f n → m ≤ i → i < n → rank p ≤ℤ rank (f m) → rank p ≤ℤ rank (f i)
later f n p m i c g k h =
    elim (eq-or-lt_of_le g) [
      | inl e ↦ subst (λ (x : ℕ). rank p ≤ℤ rank (f x)) e h
      | inr lt ↦ let u : rank (f m) <ℤ rank (f i) = c m i lt k in omega (arith, linear)
    ]

-- a point that comes before p does not stand after one that does not
not_on_both_sides : (f : ℕ → Position) (n : ℕ) (p : Position) (m i : ℕ) → Rises f n → m ≤ i → i < n → rank p ≤ℤ rank (f m) → rank (f i) <ℤ rank p → ⊥
not_on_both_sides f n p m i c g k h l = let u : rank p ≤ℤ rank (f i) = later f n p m i c g k h in let z : ⊥ = omega (arith, linear, u, l) in z

-- the step of a search that ends at index `next`, before a point that p does not come after
stepped : (f : ℕ → Position) (n : ℕ) (p : Position) (low size next left m : ℕ) → Rises f n → IsBetween f n p low size → 0 < left → next + left ≤ low + size
    → m ≤ next + left → (0 < next → rank (f next) <ℤ rank p) → (m < n → rank p ≤ℤ rank (f m)) → IsBetween f n p next left
stepped f n p low size next left m c b some within le passed reached = record {
  some = some;
  within = omega (arith, within, b.within);
  passed = passed;
  reached = λ k. later f n p m (next + left) c le k (reached (omega (arith, le, k)));
}

-- a step of three probes leaves about a quarter of the points
pub quartered : (f : ℕ → Position) (n : ℕ) (p : Position) (low size q first second third : ℕ) → Rises f n → IsBetween f n p low size → 0 < q → 4 * q ≤ size
    → Counts f p (low + q) q first → Counts f p (low + 2 * q) q second → Counts f p (low + 3 * q) q third
    → IsBetween f n p (low + (first + second + third)) (size - 3 * q)
quartered f n p low size q first second third c b some le o1 o2 o3 =
    elim o3 [
      | inl h3 ↦ elim o2 [
        | inl h2 ↦ elim o1 [
          | inl h1 ↦ go (low + 3 * q) (low + size) (omega (arith, h1.0, h2.0, h3.0)) (omega (arith, le)) (omega arith) (λ _. h3.1) b.reached
          | inr h1 ↦ absurd (not_on_both_sides f n p (low + q) (low + 3 * q) c (omega arith) (omega (arith, le, b.within, some)) h1.1 h3.1)
        ]
        | inr h2 ↦ absurd (not_on_both_sides f n p (low + 2 * q) (low + 3 * q) c (omega arith) (omega (arith, le, b.within, some)) h2.1 h3.1)
      ]
      | inr h3 ↦ elim o2 [
        | inl h2 ↦ elim o1 [
          | inl h1 ↦ go (low + 2 * q) (low + 3 * q) (omega (arith, h1.0, h2.0, h3.0)) (omega (arith, le)) (omega (arith, le)) (λ _. h2.1) (λ _. h3.1)
          | inr h1 ↦ absurd (not_on_both_sides f n p (low + q) (low + 2 * q) c (omega arith) (omega (arith, le, b.within, some)) h1.1 h2.1)
        ]
        | inr h2 ↦ elim o1 [
          | inl h1 ↦ go (low + q) (low + 2 * q) (omega (arith, h1.0, h2.0, h3.0)) (omega (arith, le)) (omega (arith, le)) (λ _. h1.1) (λ _. h2.1)
          | inr h1 ↦ go low (low + q) (omega (arith, h1.0, h2.0, h3.0)) (omega (arith, le)) (omega (arith, le)) b.passed (λ _. h1.1)
        ]
      ]
    ]
  where
    go : (next m : ℕ) → next ≡ low + (first + second + third) → next + (size - 3 * q) ≤ low + size → m ≤ next + (size - 3 * q)
        → (0 < next → rank (f next) <ℤ rank p) → (m < n → rank p ≤ℤ rank (f m)) → IsBetween f n p (low + (first + second + third)) (size - 3 * q)
    go next m e fits g passed reached =
        subst (λ (x : ℕ). IsBetween f n p x (size - 3 * q)) e (stepped f n p low size next (size - 3 * q) m c b (omega (arith, le, some)) fits g passed reached)

-- a step of one probe leaves about half of them
pub halved : (f : ℕ → Position) (n : ℕ) (p : Position) (low size half step : ℕ) → Rises f n → IsBetween f n p low size → 0 < half → 2 * half ≤ size
    → Counts f p (low + half) half step → IsBetween f n p (low + step) (size - half)
halved f n p low size half step c b some le (inl h) =
    stepped f n p low size (low + step) (size - half) (low + size) c b (omega (arith, some, le)) (omega (arith, h.0, le)) (omega (arith, h.0, le))
    (λ _. subst (λ (x : ℕ). rank (f x) <ℤ rank p) (let e : low + half ≡ low + step = omega (arith, h.0) in e) h.1) b.reached
halved f n p low size half step c b some le (inr h) =
    stepped f n p low size (low + step) (size - half) (low + half) c b (omega (arith, some, le)) (omega (arith, h.0, le)) (omega (arith, h.0, le))
    (λ k. subst (λ (x : ℕ). rank (f x) <ℤ rank p) (let e : low ≡ low + step = omega (arith, h.0) in e) (b.passed (omega (arith, h.0, k)))) (λ _. h.1)

-- the step of a search in two lists, one of which may have no more than one point left
pub halved_or_done : (f : ℕ → Position) (n : ℕ) (p : Position) (low size step : ℕ) → Rises f n → IsBetween f n p low size
    → Counts f p (low + size / 2) (size / 2) step → IsBetween f n p (low + step) (size - size / 2)
halved_or_done f n p low size step c b o =
    elim (cases_lt 0 (size / 2)) [
      | inl some ↦ halved f n p low size (size / 2) step c b some (omega arith) o
      | inr none ↦
          let nothing : step ≡ 0 = elim o [ inl k ↦ omega (arith, k.0, none) | inr k ↦ k.0 ] in
          subst (λ (s : ℕ × ℕ). IsBetween f n p s.0 s.1)
          (λ i. ((let e : low ≡ low + step = omega (arith, nothing) in e) i, (let e : size ≡ size - size / 2 = omega (arith, none) in e) i)) b
    ]

-- where one point is left, p falls before or behind it
pub falls_last : (L : List Position) (p : Position) (low size step : ℕ) → IsRising L → size ≤ 1 → IsBetween (at L) (length L) p low size
    → Counts (at L) p low 1 step → FallsAt L p (low + step)
falls_last L p low size step c h b (inl k) =
    let one : size ≡ 1 = omega (arith, b.some, h) in record {
      bound = omega (arith, b.within, one, k.0);
      before = λ i l. all_before L p low c (omega (arith, b.within, one)) k.1 i (omega (arith, l, k.0));
      after = λ i g l. all_after L p (low + step) c (subst (λ (x : ℕ). rank p ≤ℤ rank (at L x)) (let e : low + size ≡ low + step = omega (arith, one, k.0) in e)
          (b.reached (omega (arith, one, k.0, g, l)))) i g l;
    }
falls_last L p low size step c h b (inr k) =
    let one : size ≡ 1 = omega (arith, b.some, h) in record {
      bound = omega (arith, b.within, one, k.0);
      before = λ i l.
          let some : 0 < low = omega (arith, l, k.0) in
          let u = b.passed some in
          absurd (let z : ⊥ = omega (arith, linear, u, k.1) in z);
      after = λ i g l. all_after L p low c k.1 i (omega (arith, g, k.0)) l;
    }

-- ---- pieces that rise
-- the point at index a of piece i is, among all points, a after the offset of the piece
pub at_joined : (bs : List (List Position)) (i a : ℕ) → i < length bs → a < length (piece bs i) → at (all_points bs) (offset bs i + a) ≡ at (piece bs i) a
at_joined bs i a h k = get_or_joined bs i a origin h k

pub joined_within : (bs : List (List Position)) (i a : ℕ) → i < length bs → a < length (piece bs i) → offset bs i + a < length (all_points bs)
joined_within bs i a h k = omega (arith, k, offset_more bs i h, offset_within bs (i + 1))

-- where all points rise, so do those of each piece
pub piece_rises : (bs : List (List Position)) (i : ℕ) → IsRising (all_points bs) → i < length bs → IsRising (piece bs i)
piece_rises bs i c h = λ a b ab k.
    subst (λ (x : Position). rank x <ℤ rank (at (piece bs i) b)) (at_joined bs i a h (omega (arith, ab, k)))
    (subst (λ (x : Position). rank (at (all_points bs) (offset bs i + a)) <ℤ rank x) (at_joined bs i b h k)
    (c (offset bs i + a) (offset bs i + b) (omega (arith, ab)) (joined_within bs i b h k)))

pub heads_rise : (bs : List (List Position)) (i j : ℕ) → IsCut bs 0 0 → IsRising (all_points bs) → i < j → j < length bs
    → rank (at (piece bs i) 0) <ℤ rank (at (piece bs j) 0)
heads_rise bs i j cut c ij h =
    let hi : i < length bs = omega (arith, ij, h) in
    subst (λ (x : Position). rank x <ℤ rank (at (piece bs j) 0)) (at_joined bs i 0 hi (cut.filled i hi))
    (subst (λ (x : Position). rank (at (all_points bs) (offset bs i + 0)) <ℤ rank x) (at_joined bs j 0 h (cut.filled j h))
    (c (offset bs i + 0) (offset bs j + 0) (omega (arith, offset_more bs i hi, cut.filled i hi, offset_later bs (i + 1) j (omega (arith, ij))))
    (joined_within bs j 0 h (cut.filled j h))))

-- the first points of the pieces rise as well
pub firsts_rise : (bs : List (List Position)) → IsCut bs 0 0 → IsRising (all_points bs) → Rises (first_of bs) (length bs)
firsts_rise bs cut c i j ij h = heads_rise bs i j cut c ij h

-- where p falls in the last piece that begins before it, it falls in the joined list
pub falls_joined : (bs : List (List Position)) (p : Position) (i w : ℕ) → IsCut bs 0 0 → IsRising (all_points bs) → i < length bs
    → (0 < i → rank (at (piece bs i) 0) <ℤ rank p) → (i + 1 < length bs → rank p ≤ℤ rank (at (piece bs (i + 1)) 0)) → FallsAt (piece bs i) p w
    → FallsAt (all_points bs) p (offset bs i + w)
falls_joined bs p i w cut c h passed reached f = record {
  bound = omega (arith, f.bound, offset_more bs i h, offset_within bs (i + 1));
  before = λ m k. elim (cases_lt 0 w) [
    | inl some ↦
        let a : ℕ = w - 1 in
        let within : a < length (piece bs i) = omega (arith, some, f.bound) in
        let u : rank (at (all_points bs) (offset bs i + a)) <ℤ rank p =
        subst (λ (x : Position). rank x <ℤ rank p) (sym (at_joined bs i a h within)) (f.before a (omega (arith, some))) in
        all_before (all_points bs) p (offset bs i + a) c (joined_within bs i a h within) u m (omega (arith, k, some))
    | inr none ↦ elim (cases_lt 0 i) [
      | inl later ↦
          let u = passed later in
          let v : rank p ≤ℤ rank (at (piece bs i) 0) = f.after 0 (omega (arith, none)) (cut.filled i h) in
          absurd (let z : ⊥ = omega (arith, linear, u, v) in z)
      | inr first ↦ absurd (omega (arith, k, none, ap (offset bs) (let e : i ≡ 0 = omega (arith, first) in e)))
    ]
  ];
  after = λ m g k. elim (cases_lt w (length (piece bs i))) [
    | inl l ↦ all_after (all_points bs) p (offset bs i + w) c (subst (λ (x : Position). rank p ≤ℤ rank x) (sym (at_joined bs i w h l))
        (f.after w (omega arith) l)) m g k
    | inr e ↦
        let n : offset bs i + w ≡ offset bs (i + 1) + 0 = omega (arith, e, f.bound, offset_more bs i h) in
        elim (cases_lt (i + 1) (length bs)) [
          | inl more ↦ all_after (all_points bs) p (offset bs (i + 1) + 0) c
              (subst (λ (x : Position). rank p ≤ℤ rank x) (sym (at_joined bs (i + 1) 0 more (cut.filled (i + 1) more))) (reached more)) m
              (omega (arith, n, g)) k
          | inr last ↦ absurd (omega (arith, n, g, k, offset_all bs (i + 1) last))
        ]
  ];
}
