-- How pieces are cut, after one of them changed, and after pieces took the place of others.
use Rattle.std.proofs.Common.{◌≡◌, sym, ap, subst, ◌∙◌, ℕ, zero, suc, ◌+◌, ◌-◌, ◌*◌, ◌/◌, ◌<◌, ◌≤◌, ◌⊎◌, inl, inr, List, [], ◌∷◌, ◌++◌, length, take, drop}
use Rattle.std.proofs.Common.{get_or, set, arith, length-append, length-drop}
use Rattle.std.proofs.lemmas.Bool.{cases_lt, cases_eq}
use Rattle.std.proofs.lemmas.List.{append_assoc, append-nil, take_at, get_or_append_left, get_or-append_right, get_or-append-add, get_or-take, get_or-drop}
use Rattle.std.proofs.lemmas.List.{get_or-set_same, get_or-set_other, length-set, length-take-le, set_split, take_more_set, take-set-le, drop-set, drop-set-lt}
use Rattle.std.proofs.lemmas.List.{drop_all}
use Rattle.range_plane.specs.Plane.{Position}
use Rattle.range_pieces.specs.Pieces.{IsCut, all_points, piece, piece_size, offset, capacity_of}
use Rattle.range_pieces.proofs.Joins.{offset_more, offset_within}

-- M is bs with the pieces `mid` in place of those from i up to k
pub record IsSpliced (bs mid M : List (List Position)) (i k : ℕ) : Type 0 where
  pub len : length M + k ≡ i + length mid + length bs
  pub left : (m : ℕ) → m < i → piece M m ≡ piece bs m
  pub middle : (m : ℕ) → m < length mid → piece M (i + m) ≡ piece mid m
  pub right : (m : ℕ) → piece M (i + length mid + m) ≡ piece bs (k + m)

-- the first i pieces, `mid` and those from k on, put together, are such a list
pub spliced : (bs mid : List (List Position)) (i k : ℕ) → i ≤ k → k ≤ length bs → IsSpliced bs mid (take i bs ++ (mid ++ drop k bs)) i k
spliced bs mid i k le within =
    let n : length (take i bs) ≡ i = length-take-le i bs (omega arith) in record {
      len = omega (arith, length-append (take i bs) (mid ++ drop k bs), length-append mid (drop k bs), length-drop k bs, n);
      left = λ m h. get_or_append_left (take i bs) (mid ++ drop k bs) [] m (omega (arith, n, h)) ∙ get_or-take i bs m [] h;
      middle = λ m h.
          get_or-append_right (take i bs) (mid ++ drop k bs) i (i + m) [] n (omega arith)
          ∙ ap (λ (x : ℕ). get_or (mid ++ drop k bs) x []) (let e : i + m - i ≡ m = omega arith in e)
          ∙ get_or_append_left mid (drop k bs) [] m h;
      right = λ m.
          get_or-append_right (take i bs) (mid ++ drop k bs) i (i + length mid + m) [] n (omega arith)
          ∙ ap (λ (x : ℕ). get_or (mid ++ drop k bs) x []) (let e : i + length mid + m - i ≡ length mid + m = omega arith in e)
          ∙ get_or-append-add mid (drop k bs) m []
          ∙ get_or-drop k bs m [];
    }

-- where index m falls: before i, among the n from there on, or after them
pub data Spot (i n m : ℕ) : Type 0 where
  before : m < i → Spot i n m
  among : (x : ℕ) → x < n → i + x ≡ m → Spot i n m
  past : (x : ℕ) → i + n + x ≡ m → Spot i n m

spot : (i n m : ℕ) → Spot i n m
spot i n m =
    elim (cases_lt m i) [
      | inl l ↦ before l
      | inr g ↦ elim (cases_lt m (i + n)) [
        | inl l ↦ among (m - i) (omega (arith, g, l)) (omega (arith, g))
        | inr h ↦ past (m - (i + n)) (omega (arith, h))
      ]
    ]

size_at : (M : List (List Position)) (a b : ℕ) → a ≡ b → length (piece M a) ≡ length (piece M b)
size_at M a b e = ap (λ (x : ℕ). length (piece M x)) e

-- a list of pieces none of which is empty or too long
pub record AreFair (mid : List (List Position)) : Type 0 where
  pub filled : (i : ℕ) → i < length mid → 0 < length (piece mid i)
  pub bound : (i : ℕ) → i < length mid → length (piece mid i) ≤ piece_size

pub fair_one : (b : List Position) → 0 < length b → length b ≤ piece_size → AreFair (b ∷ [])
fair_one b h k = record {
  filled = one (λ n. 0 < n) b h;
  bound = one (λ n. n ≤ piece_size) b k;
}
  where
    one : (P : ℕ → Type 0) (b : List Position) → P (length b) → (i : ℕ) → i < length (b ∷ []) → P (length (piece (b ∷ []) i))
    one P b h zero lt = h
    one P b h (suc i) lt = absurd (omega (arith, lt))

pub fair_two : (b c : List Position) → 0 < length b → length b ≤ piece_size → 0 < length c → length c ≤ piece_size → AreFair (b ∷ c ∷ [])
fair_two b c h k h' k' = record {
  filled = two (λ n. 0 < n) b c h h';
  bound = two (λ n. n ≤ piece_size) b c k k';
}
  where
    two : (P : ℕ → Type 0) (b c : List Position) → P (length b) → P (length c) → (i : ℕ) → i < length (b ∷ c ∷ []) → P (length (piece (b ∷ c ∷ []) i))
    two P b c h h' zero lt = h
    two P b c h h' (suc zero) lt = h'
    two P b c h h' (suc (suc i)) lt = absurd (omega (arith, lt))

pub cut_splice : (bs mid M : List (List Position)) (i k : ℕ) → i ≤ k → k ≤ length bs → IsSpliced bs mid M i k → AreFair mid → IsCut bs 0 0
    → IsCut M (i - 1) (i + length mid)
cut_splice bs mid M i k le within s f c = record {
  filled = λ m h. elim (spot i (length mid) m) [
    | before l ↦ omega (arith, ap length (s.left m l), c.filled m (omega (arith, l, le, within)))
    | among x l e ↦ omega (arith, size_at M (i + x) m e, ap length (s.middle x l), f.filled x l)
    | past x e ↦ omega (arith, size_at M (i + length mid + x) m e, ap length (s.right x), c.filled (k + x) (omega (arith, e, h, s.len)))
  ];
  bound = λ m h. elim (spot i (length mid) m) [
    | before l ↦ omega (arith, ap length (s.left m l), c.bound m (omega (arith, l, le, within)))
    | among x l e ↦ omega (arith, size_at M (i + x) m e, ap length (s.middle x l), f.bound x l)
    | past x e ↦ omega (arith, size_at M (i + length mid + x) m e, ap length (s.right x), c.bound (k + x) (omega (arith, e, h, s.len)))
  ];
  tight = λ m h o. elim o [
    | inl l ↦ omega (
      arith,
      ap length (s.left m (omega (arith, l))),
      ap length (s.left (m + 1) (omega (arith, l))),
      c.tight m (omega (arith, l, le, within)) (inr (omega arith)),
    )
    | inr g ↦
        let x : ℕ = m - (i + length mid) in
        omega (
          arith,
          size_at M (i + length mid + x) m (omega (arith, g)),
          ap length (s.right x),
          size_at M (i + length mid + (x + 1)) (m + 1) (omega (arith, g)),
          ap length (s.right (x + 1)),
          size_at bs (k + (x + 1)) (k + x + 1) (omega arith),
          c.tight (k + x) (omega (arith, g, h, s.len)) (inr (omega arith)),
        )
  ];
}

-- a piece that grows
size_set : (bs : List (List Position)) (i : ℕ) (b : List Position) → i < length bs → (m : ℕ) → ((m ≡ i) × (length (piece (set bs i b) m) ≡ length b))
    ⊎ (length (piece (set bs i b) m) ≡ length (piece bs m))
size_set bs i b h m =
    elim (cases_eq m i) [
      | inl e ↦ inl (e, size_at (set bs i b) m i e ∙ ap length (get_or-set_same bs i b [] h))
      | inr n ↦ inr (ap length (get_or-set_other bs i m b [] n))
    ]

-- pieces stay cut with a piece in place of one that is no longer than it, where it holds at most piece_size points
pub cut_grow : (bs : List (List Position)) (i : ℕ) (b : List Position) (lo hi : ℕ) → i < length bs → length (piece bs i) ≤ length b → length b ≤ piece_size
    → IsCut bs lo hi → IsCut (set bs i b) lo hi
cut_grow bs i b lo hi h le top c = record {
  filled = λ m g. omega (arith, c.filled m (omega (arith, g, length-set bs i b)), more m);
  bound = λ m g. elim (size_set bs i b h m) [
    | inl e ↦ omega (arith, e.1, top)
    | inr e ↦ omega (arith, e, c.bound m (omega (arith, g, length-set bs i b)))
  ];
  tight = λ m g o. omega (arith, c.tight m (omega (arith, g, length-set bs i b)) o, more m, more (m + 1));
}
  where
    more : (m : ℕ) → length (piece bs m) ≤ length (piece (set bs i b) m)
    more m = elim (size_set bs i b h m) [
      | inl e ↦ omega (arith, e.1, le, size_at bs m i e.0)
      | inr e ↦ omega (arith, e)
    ]

-- a piece that changes
pub cut_set : (bs : List (List Position)) (i : ℕ) (b : List Position) → i < length bs → 0 < length b → length b ≤ piece_size → IsCut bs 0 0
    → IsCut (set bs i b) (i - 1) (i + 1)
cut_set bs i b h some top c =
    subst (λ (M : List (List Position)). IsCut M (i - 1) (i + 1))
    (sym (set_split bs i b h ∙ ap (λ (k : ℕ). take i bs ++ b ∷ drop k bs) (let e : suc i ≡ i + 1 = omega arith in e)))
    (cut_splice bs (b ∷ []) (take i bs ++ b ∷ drop (i + 1) bs) i (i + 1) (omega arith) (omega arith) (spliced bs (b ∷ []) i (i + 1) (omega arith) (omega arith))
    (fair_one b some top) c)

-- a piece between full ones
pub cut_between : (bs : List (List Position)) (i : ℕ) (b : List Position) → i ≤ length bs → 0 < length b → length b ≤ piece_size
    → (0 < i → length (piece bs (i - 1)) ≡ piece_size) → (i < length bs → length (piece bs i) ≡ piece_size) → IsCut bs 0 0
    → IsCut (take i bs ++ b ∷ drop i bs) 0 0
cut_between bs i b h some top below above c =
    let M = take i bs ++ b ∷ drop i bs in
    let s = spliced bs (b ∷ []) i i (omega arith) h in
    let w = cut_splice bs (b ∷ []) M i i (omega arith) h s (fair_one b some top) c in record {
      filled = w.filled;
      bound = w.bound;
      tight = λ m g o. elim (cases_lt m i) [
        | inl lt ↦ elim (cases_lt m (i - 1)) [
          | inl l ↦ w.tight m g (inl l)
          | inr ge ↦
              let q : m + 1 ≡ i = omega (arith, lt, ge) in
              omega (
                arith,
                ap length (s.left m lt),
                size_at bs m (i - 1) (omega (arith, q)),
                below (omega (arith, q)),
                size_at M (m + 1) (i + 0) (omega (arith, q)),
                ap length (s.middle 0 (omega arith)),
                some,
              )
        ]
        | inr ge ↦ elim (cases_eq m i) [
          | inl q ↦ omega (
            arith,
            size_at M m (i + 0) (omega (arith, q)),
            ap length (s.middle 0 (omega arith)),
            some,
            size_at M (m + 1) (i + 1 + 0) (omega (arith, q)),
            ap length (s.right 0),
            size_at bs (i + 0) i (omega arith),
            above (omega (arith, q, g, s.len)),
          )
          | inr n ↦ w.tight m g (inr (let d : i + 1 ≤ m = omega (arith, ge, n) in d))
        ]
      ];
    }

-- two neighbours made one
pub cut_join : (bs : List (List Position)) (lo i : ℕ) → lo ≤ i → i + 1 < length bs → length (piece bs i) + length (piece bs (i + 1)) ≤ piece_size
    → IsCut bs lo (i + 1) → IsCut (take i bs ++ (piece bs i ++ piece bs (i + 1)) ∷ drop (i + 2) bs) lo i
cut_join bs lo i le h fits c =
    let b = piece bs i ++ piece bs (i + 1) in
    let M = take i bs ++ b ∷ drop (i + 2) bs in
    let s = spliced bs (b ∷ []) i (i + 2) (omega arith) (omega (arith, h)) in
    let size : length b ≡ length (piece bs i) + length (piece bs (i + 1)) = length-append (piece bs i) (piece bs (i + 1)) in
    let here : length (piece M i) ≡ length b = size_at M i (i + 0) (omega arith) ∙ ap length (s.middle 0 (omega arith)) in record {
      filled = λ m g. elim (spot i 1 m) [
        | before l ↦ omega (arith, ap length (s.left m l), c.filled m (omega (arith, l, h)))
        | among x l e ↦ omega (arith, size_at M i m (omega (arith, l, e)), here, size, c.filled i (omega (arith, h)))
        | past x e ↦ omega (arith, size_at M (i + 1 + x) m e, ap length (s.right x), c.filled (i + 2 + x) (omega (arith, e, g, s.len)))
      ];
      bound = λ m g. elim (spot i 1 m) [
        | before l ↦ omega (arith, ap length (s.left m l), c.bound m (omega (arith, l, h)))
        | among x l e ↦ omega (arith, size_at M i m (omega (arith, l, e)), here, size, fits)
        | past x e ↦ omega (arith, size_at M (i + 1 + x) m e, ap length (s.right x), c.bound (i + 2 + x) (omega (arith, e, g, s.len)))
      ];
      tight = λ m g o. elim (cases_lt m i) [
        | inl lt ↦
            let old : piece_size < length (piece bs m) + length (piece bs (m + 1)) =
            c.tight m (omega (arith, lt, h)) (elim o [ inl l ↦ inl l | inr ge ↦ absurd (omega (arith, ge, lt)) ]) in
            elim (cases_lt (m + 1) i) [
              | inl lt' ↦ omega (arith, old, ap length (s.left m lt), ap length (s.left (m + 1) lt'))
              | inr ge ↦ omega (
                arith,
                old,
                ap length (s.left m lt),
                size_at M i (m + 1) (omega (arith, ge, lt)),
                here,
                size,
                size_at bs i (m + 1) (omega (arith, ge, lt)),
              )
            ]
        | inr ge ↦ elim (cases_eq m i) [
          | inl q ↦ omega (
            arith,
            size_at M i m (sym q),
            here,
            size,
            size_at M (i + 1 + 0) (m + 1) (omega (arith, q)),
            ap length (s.right 0),
            size_at bs (i + 2 + 0) (i + 1 + 1) (omega arith),
            c.tight (i + 1) (omega (arith, q, g, s.len)) (inr (omega arith)),
          )
          | inr n ↦
              let x : ℕ = m - (i + 1) in
              omega (
                arith,
                size_at M (i + 1 + x) m (omega (arith, ge, n)),
                ap length (s.right x),
                size_at M (i + 1 + (x + 1)) (m + 1) (omega (arith, ge, n)),
                ap length (s.right (x + 1)),
                size_at bs (i + 2 + (x + 1)) (i + 2 + x + 1) (omega arith),
                c.tight (i + 2 + x) (omega (arith, ge, n, g, s.len)) (inr (omega arith)),
              )
        ]
      ];
    }

-- a full piece cut in two
pub cut_split : (bs : List (List Position)) (i a : ℕ) → i < length bs → 0 < a → a < length (piece bs i) → IsCut bs 0 0
    → IsCut (take i bs ++ take a (piece bs i) ∷ drop a (piece bs i) ∷ drop (i + 1) bs) (i - 1) (i + 2)
cut_split bs i a h some less c =
    let b = piece bs i in
    let n : length (take a b) ≡ a = length-take-le a b (omega (arith, less)) in
    let m : length (drop a b) ≡ length b - a = length-drop a b in
    let top = c.bound i h in
    cut_splice bs (take a b ∷ drop a b ∷ []) (take i bs ++ take a b ∷ drop a b ∷ drop (i + 1) bs) i (i + 1) (omega arith) (omega (arith, h))
    (spliced bs (take a b ∷ drop a b ∷ []) i (i + 1) (omega arith) (omega (arith, h)))
    (fair_two (take a b) (drop a b) (omega (arith, n, some)) (omega (arith, n, less, top)) (omega (arith, m, less)) (omega (arith, m, top))) c

-- the end of piece i, all pieces up to k and the start of piece k make room for one point
pub cut_across : (bs : List (List Position)) (i k a b : ℕ) (p : Position) → i < k → k < length bs → a < length (piece bs i) → b < length (piece bs k)
    → IsCut bs 0 0 → IsCut (take i bs ++ (take a (piece bs i) ++ p ∷ []) ∷ drop b (piece bs k) ∷ drop (k + 1) bs) (i - 1) (i + 2)
cut_across bs i k a b p ik h ha hb c =
    let x = take a (piece bs i) ++ p ∷ [] in
    let y = drop b (piece bs k) in
    let n : length x ≡ a + 1 = omega (arith, length-append (take a (piece bs i)) (p ∷ []), length-take-le a (piece bs i) (omega (arith, ha))) in
    let m : length y ≡ length (piece bs k) - b = length-drop b (piece bs k) in
    let top = c.bound i (omega (arith, ik, h)) in
    let top' = c.bound k h in
    cut_splice bs (x ∷ y ∷ []) (take i bs ++ x ∷ y ∷ drop (k + 1) bs) i (k + 1) (omega (arith, ik)) (omega (arith, h))
    (spliced bs (x ∷ y ∷ []) i (k + 1) (omega (arith, ik)) (omega (arith, h)))
    (fair_two x y (omega (arith, n)) (omega (arith, n, ha, top)) (omega (arith, m, hb)) (omega (arith, m, top'))) c

-- the end of piece i and all later pieces make room for one point
pub cut_to_end : (bs : List (List Position)) (i a : ℕ) (p : Position) → i < length bs → a < length (piece bs i) → IsCut bs 0 0
    → IsCut (take i bs ++ (take a (piece bs i) ++ p ∷ []) ∷ []) (i - 1) (i + 2)
cut_to_end bs i a p h ha c =
    let x = take a (piece bs i) ++ p ∷ [] in
    let n : length x ≡ a + 1 = omega (arith, length-append (take a (piece bs i)) (p ∷ []), length-take-le a (piece bs i) (omega (arith, ha))) in
    let top = c.bound i h in
    let none : drop (length bs) bs ≡ [] = drop_all (length bs) bs (omega arith) in
    let w = cut_splice bs (x ∷ []) (take i bs ++ x ∷ drop (length bs) bs) i (length bs) (omega (arith, h)) (omega arith)
    (spliced bs (x ∷ []) i (length bs) (omega (arith, h)) (omega arith)) (fair_one x (omega (arith, n)) (omega (arith, n, ha, top))) c in
    subst (λ (ys : List (List Position)). IsCut (take i bs ++ x ∷ ys) (i - 1) (i + 2)) none
    (widen (take i bs ++ x ∷ drop (length bs) bs) (i - 1) (i + 1) (i + 2) (omega arith) w)
  where
    widen : (M : List (List Position)) (lo hi top : ℕ) → hi ≤ top → IsCut M lo hi → IsCut M lo top
    widen M lo hi top le c = record {
      filled = c.filled;
      bound = c.bound;
      tight = λ m g o. c.tight m g (elim o [ inl l ↦ inl l | inr h ↦ inr (let d : hi ≤ m = omega (arith, le, h) in d) ]);
    }

-- ---- how many pieces there are
-- the first 2 q pieces hold at least q times piece_size points
half_full : (bs : List (List Position)) (q : ℕ) → q + q ≤ length bs → IsCut bs 0 0 → piece_size * q ≤ offset bs (q + q)
half_full bs zero h c = omega arith
half_full bs (suc q) h c =
    let e : suc q + suc q ≡ q + q + 1 + 1 = omega arith in
    let n : offset bs (suc q + suc q) ≡ offset bs (q + q + 1 + 1) = ap (offset bs) e in
    omega (
      arith,
      half_full bs q (omega (arith, h)) c,
      n,
      offset_more bs (q + q + 1) (omega (arith, h)),
      offset_more bs (q + q) (omega (arith, h)),
      c.tight (q + q) (omega (arith, h)) (inr (omega arith)),
    )

-- a piece is left where one of them is full, or there is none yet
pub free_left : (bs : List (List Position)) (free i : ℕ) → IsCut bs 0 0 → length (all_points bs) < capacity_of (length bs + free)
    → (0 < length bs → (i < length bs) × (length (piece bs i) ≡ piece_size)) → 0 < free
free_left bs free i c room full =
    elim (cases_lt 0 free) [
      | inl l ↦ l
      | inr none ↦ elim (cases_lt (length bs) 2) [
        | inl few ↦ elim (cases_lt 0 (length bs)) [
          | inl some ↦
              let f = full some in
              absurd (omega (arith, room, few, some, none, offset_within bs (i + 1), offset_more bs i f.0, f.1))
          | inr empty ↦ absurd (omega (arith, room, none, empty))
        ]
        | inr many ↦
            let q : ℕ = length bs / 2 in
            absurd (omega (arith, room, none, many, offset_within bs (q + q), half_full bs q (omega arith) c))
      ]
    ]

-- the same between two full pieces
pub free_between : (bs : List (List Position)) (free i : ℕ) → IsCut bs 0 0 → i ≤ length bs → length (all_points bs) < capacity_of (length bs + free)
    → (0 < i → length (piece bs (i - 1)) ≡ piece_size) → (i < length bs → length (piece bs i) ≡ piece_size) → 0 < free
free_between bs free i c h room below above =
    elim (cases_lt 0 i) [
      | inl some ↦ free_left bs free (i - 1) c room (λ _. (omega (arith, some, h), below some))
      | inr none ↦ free_left bs free i c room (λ some. let l : i < length bs = omega (arith, none, some) in (l, above l))
    ]

-- ---- halves of a full piece
-- what stands at `index` in piece i of bs stands at `at` in piece j of M, which has room
pub record IsHalf (bs M : List (List Position)) (i index j at : ℕ) : Type 0 where
  pub piece_is : j < length M
  pub within : at ≤ length (piece M j)
  pub room : length (piece M j) < piece_size
  pub same : offset M j + at ≡ offset bs i + index

-- an index in a piece that is cut in two lies in one of its halves
pub halved : (bs M : List (List Position)) (i index j at : ℕ) → i < length bs → length (piece bs i) ≡ piece_size → index ≤ piece_size
    → M ≡ take i bs ++ take 128 (piece bs i) ∷ drop 128 (piece bs i) ∷ drop (i + 1) bs → ((j ≡ i) × (at ≡ index) × (index ≤ 128))
    ⊎ ((j ≡ i + 1) × (at + 128 ≡ index)) → IsHalf bs M i index j at
halved bs M i index j at h full le e o =
    let b = piece bs i in
    let N = take i bs ++ take 128 b ∷ drop 128 b ∷ drop (i + 1) bs in
    let s = spliced bs (take 128 b ∷ drop 128 b ∷ []) i (i + 1) (omega arith) (omega (arith, h)) in
    let len : length M ≡ length N = ap length e in
    let size : (m : ℕ) → length (piece M m) ≡ length (piece N m) = λ m. ap (λ (xs : List (List Position)). length (piece xs m)) e in
    let first : length (piece M i) ≡ 128 = omega (
      arith,
      size i,
      size_at N i (i + 0) (omega arith),
      ap length (s.middle 0 (omega arith)),
      length-take-le 128 b (omega (arith, full)),
    ) in
    let second : length (piece M (i + 1)) ≡ 128 = omega (arith, size (i + 1), ap length (s.middle 1 (omega arith)), length-drop 128 b, full) in
    let start : offset M i ≡ offset bs i = ap (λ (xs : List (List Position)). length (all_points xs))
    (ap (take i) e ∙ take_at (take i bs) (take 128 b ∷ drop 128 b ∷ drop (i + 1) bs) i (length-take-le i bs (omega (arith, h)))) in
    let next : offset M (i + 1) ≡ offset M i + length (piece M i) = offset_more M i (omega (arith, len, s.len, h)) in
    elim o [
      | inl q ↦ record {
        piece_is = omega (arith, q.0, len, s.len, h);
        within = omega (arith, q.1, q.2, first, size_at M j i q.0);
        room = omega (arith, first, size_at M j i q.0);
        same = omega (arith, start, ap (offset M) q.0, q.1);
      }
      | inr q ↦ record {
        piece_is = omega (arith, q.0, len, s.len, h);
        within = omega (arith, q.1, le, second, size_at M j (i + 1) q.0);
        room = omega (arith, second, size_at M j (i + 1) q.0);
        same = omega (arith, start, next, first, ap (offset M) q.0, q.1);
      }
    ]

-- ---- what is left where pieces are taken out from between two that changed
-- with x and y set as pieces i and k, and those between left out, x and y stand between the pieces before i and those after k
pub set_across : (bs : List (List Position)) (i k : ℕ) (x y : List Position) → i < k → k < length bs
    → take (i + 1) (set (set bs i x) k y) ++ drop k (set (set bs i x) k y) ≡ take i bs ++ x ∷ y ∷ drop (k + 1) bs
set_across bs i k x y ik h =
    let one = set bs i x in
    let n : length one ≡ length bs = length-set bs i x in
    let front : take (i + 1) (set one k y) ≡ take i bs ++ x ∷ [] = take-set-le (i + 1) one k y (omega (arith, ik))
    ∙ take_more_set bs i x (omega (arith, ik, h)) in
    let back : drop k (set one k y) ≡ y ∷ drop (k + 1) bs = drop-set one k y (omega (arith, n, h))
    ∙ ap (λ (xs : List (List Position)). y ∷ xs) (drop-set-lt (k + 1) bs i x (omega (arith, ik))) in
    ap (λ (xs : List (List Position)). xs ++ drop k (set one k y)) front
    ∙ ap (λ (xs : List (List Position)). (take i bs ++ x ∷ []) ++ xs) back
    ∙ append_assoc (take i bs) (x ∷ []) (y ∷ drop (k + 1) bs)

-- the same where nothing is left behind them
pub set_to_end : (bs : List (List Position)) (i k : ℕ) (x : List Position) → i < length bs → k ≡ length bs
    → take (i + 1) (set bs i x) ++ drop k (set bs i x) ≡ take i bs ++ x ∷ []
set_to_end bs i k x h e =
    ap (λ (xs : List (List Position)). take (i + 1) (set bs i x) ++ xs) (drop_all k (set bs i x) (omega (arith, e, length-set bs i x)))
    ∙ append-nil (take (i + 1) (set bs i x))
    ∙ take_more_set bs i x h
