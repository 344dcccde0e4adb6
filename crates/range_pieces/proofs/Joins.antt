-- Pieces that are joined, and what of the joined list stands before and after a position in a piece.
use Rattle.std.proofs.Common.{◌≡◌, sym, ap, ◌∙◌, ℕ, suc, ◌+◌, ◌<◌, ◌≤◌, List, [], ◌∷◌, ◌++◌, length, take, drop, get_or, set, arith, length-append}
use Rattle.std.proofs.lemmas.List.{set_split, get_or_append_left, append-nil, append_assoc, drop_more, drop_all, take_all, take_more, take-append-drop}
use Rattle.std.proofs.lemmas.List.{take-append-le, drop-append-le, get_or-append-add}
use Rattle.std.proofs.lemmas.List.Concat.{flat_map-append}
use Rattle.std.proofs.Math.Seq.{take-append-add, drop-append-add}
use Rattle.range_plane.specs.Plane.{Position}
use Rattle.range_pieces.specs.Pieces.{all_points, piece, offset, exchange}

pub joined_append : (cs bs : List (List Position)) → all_points (cs ++ bs) ≡ all_points cs ++ all_points bs
joined_append cs bs = flat_map-append (λ (b : List Position). b) cs bs

-- the joined list, cut before piece i
pub joined_cut : (bs : List (List Position)) (i : ℕ) → all_points bs ≡ all_points (take i bs) ++ all_points (drop i bs)
joined_cut bs i = sym (ap all_points (take-append-drop i bs)) ∙ joined_append (take i bs) (drop i bs)

pub joined_drop : (bs : List (List Position)) (i : ℕ) → i < length bs → all_points (drop i bs) ≡ piece bs i ++ all_points (drop (i + 1) bs)
joined_drop bs i h = ap all_points (drop_more bs i [] h)

-- ---- offsets
-- the offset of the next piece is that of this one and the number of its points
pub offset_more : (bs : List (List Position)) (i : ℕ) → i < length bs → offset bs (i + 1) ≡ offset bs i + length (piece bs i)
offset_more bs i h =
    ap (λ (xs : List (List Position)). length (all_points xs)) (take_more bs i [] h)
    ∙ ap length (joined_append (take i bs) (piece bs i ∷ []) ∙ ap (λ (xs : List Position). all_points (take i bs) ++ xs) (append-nil (piece bs i)))
    ∙ length-append (all_points (take i bs)) (piece bs i)

-- after the last piece the offset is the number of all points
pub offset_all : (bs : List (List Position)) (i : ℕ) → length bs ≤ i → offset bs i ≡ length (all_points bs)
offset_all bs i h = ap (λ (xs : List (List Position)). length (all_points xs)) (take_all i bs h)

-- an offset is at most the number of all points
pub offset_within : (bs : List (List Position)) (i : ℕ) → offset bs i ≤ length (all_points bs)
offset_within bs i = omega (arith, ap length (joined_cut bs i), length-append (all_points (take i bs)) (all_points (drop i bs)))

-- ---- before and after a position
pub take_joined : (bs : List (List Position)) (i a : ℕ) → i < length bs → a ≤ length (piece bs i)
    → take (offset bs i + a) (all_points bs) ≡ all_points (take i bs) ++ take a (piece bs i)
take_joined bs i a h le =
    ap (λ (xs : List Position). take (offset bs i + a) xs) (joined_cut bs i)
    ∙ take-append-add (all_points (take i bs)) (all_points (drop i bs)) a
    ∙ ap (λ (xs : List Position). all_points (take i bs) ++ take a xs) (joined_drop bs i h)
    ∙ ap (λ (xs : List Position). all_points (take i bs) ++ xs) (take-append-le a (piece bs i) (all_points (drop (i + 1) bs)) le)

pub drop_joined : (bs : List (List Position)) (i a : ℕ) → i < length bs → a ≤ length (piece bs i)
    → drop (offset bs i + a) (all_points bs) ≡ drop a (piece bs i) ++ all_points (drop (i + 1) bs)
drop_joined bs i a h le =
    ap (λ (xs : List Position). drop (offset bs i + a) xs) (joined_cut bs i)
    ∙ drop-append-add (all_points (take i bs)) (all_points (drop i bs)) a
    ∙ ap (λ (xs : List Position). drop a xs) (joined_drop bs i h)
    ∙ drop-append-le a (piece bs i) (all_points (drop (i + 1) bs)) le

pub take_offset : (bs : List (List Position)) (i : ℕ) → take (offset bs i) (all_points bs) ≡ all_points (take i bs)
take_offset bs i =
    ap (λ (xs : List Position). take (offset bs i) xs) (joined_cut bs i)
    ∙ take-append-le (offset bs i) (all_points (take i bs)) (all_points (drop i bs)) (omega arith)
    ∙ take_all (offset bs i) (all_points (take i bs)) (omega arith)

pub drop_offset : (bs : List (List Position)) (i : ℕ) → drop (offset bs i) (all_points bs) ≡ all_points (drop i bs)
drop_offset bs i =
    ap (λ (xs : List Position). drop (offset bs i) xs) (joined_cut bs i)
    ∙ drop-append-le (offset bs i) (all_points (take i bs)) (all_points (drop i bs)) (omega arith)
    ∙ ap (λ (xs : List Position). xs ++ all_points (drop i bs)) (drop_all (offset bs i) (all_points (take i bs)) (omega arith))

-- the item at an index in a piece
pub get_or_joined : (bs : List (List Position)) (i a : ℕ) (d : Position) → i < length bs → a < length (piece bs i)
    → get_or (all_points bs) (offset bs i + a) d ≡ get_or (piece bs i) a d
get_or_joined bs i a d h le =
    ap (λ (xs : List Position). get_or xs (offset bs i + a) d) (joined_cut bs i)
    ∙ get_or-append-add (all_points (take i bs)) (all_points (drop i bs)) a d
    ∙ ap (λ (xs : List Position). get_or xs a d) (joined_drop bs i h)
    ∙ get_or_append_left (piece bs i) (all_points (drop (i + 1) bs)) d a le

-- ---- pieces in place of pieces
-- p within piece i
pub joined_put : (bs : List (List Position)) (i a b : ℕ) (p : Position) → i < length bs → a ≤ length (piece bs i) → b ≤ length (piece bs i)
    → all_points (set bs i (exchange (piece bs i) p a b)) ≡ exchange (all_points bs) p (offset bs i + a) (offset bs i + b)
joined_put bs i a b p h ha hb =
    ap all_points (set_split bs i (exchange (piece bs i) p a b) h
    ∙ ap (λ (k : ℕ). take i bs ++ exchange (piece bs i) p a b ∷ drop k bs) (let e : suc i ≡ i + 1 = omega arith in e))
    ∙ joined_append (take i bs) (exchange (piece bs i) p a b ∷ drop (i + 1) bs)
    ∙ regroup (all_points (take i bs)) (take a (piece bs i)) (drop b (piece bs i)) (all_points (drop (i + 1) bs)) p
    ∙ sym (ap (λ (xs : List Position). xs ++ p ∷ drop (offset bs i + b) (all_points bs)) (take_joined bs i a h ha)
    ∙ ap (λ (xs : List Position). (all_points (take i bs) ++ take a (piece bs i)) ++ p ∷ xs) (drop_joined bs i b h hb))
  where
    regroup : (x y z w : List Position) (p : Position) → x ++ ((y ++ p ∷ z) ++ w) ≡ (x ++ y) ++ p ∷ (z ++ w)
    regroup x y z w p = simp append_assoc

-- p in a piece of its own
pub joined_open : (bs : List (List Position)) (i : ℕ) (p : Position)
    → all_points (take i bs ++ (p ∷ []) ∷ drop i bs) ≡ exchange (all_points bs) p (offset bs i) (offset bs i)
joined_open bs i p =
    joined_append (take i bs) ((p ∷ []) ∷ drop i bs)
    ∙ sym (ap (λ (xs : List Position). xs ++ p ∷ drop (offset bs i) (all_points bs)) (take_offset bs i)
    ∙ ap (λ (xs : List Position). all_points (take i bs) ++ p ∷ xs) (drop_offset bs i))

-- one piece cut in two
pub joined_split : (bs : List (List Position)) (i a : ℕ) → i < length bs
    → all_points (take i bs ++ take a (piece bs i) ∷ drop a (piece bs i) ∷ drop (i + 1) bs) ≡ all_points bs
joined_split bs i a h =
    joined_append (take i bs) (take a (piece bs i) ∷ drop a (piece bs i) ∷ drop (i + 1) bs)
    ∙ ap (λ (xs : List Position). all_points (take i bs) ++ xs) (sym (append_assoc (take a (piece bs i)) (drop a (piece bs i)) (all_points (drop (i + 1) bs)))
    ∙ ap (λ (xs : List Position). xs ++ all_points (drop (i + 1) bs)) (take-append-drop a (piece bs i)))
    ∙ sym (joined_cut bs i ∙ ap (λ (xs : List Position). all_points (take i bs) ++ xs) (joined_drop bs i h))

-- two pieces made one
pub joined_join : (bs : List (List Position)) (i : ℕ) → i + 1 < length bs
    → all_points (take i bs ++ (piece bs i ++ piece bs (i + 1)) ∷ drop (i + 2) bs) ≡ all_points bs
joined_join bs i h =
    joined_append (take i bs) ((piece bs i ++ piece bs (i + 1)) ∷ drop (i + 2) bs)
    ∙ ap (λ (xs : List Position). all_points (take i bs) ++ xs)
    (append_assoc (piece bs i) (piece bs (i + 1)) (all_points (drop (i + 2) bs))
    ∙ ap (λ (xs : List Position). piece bs i ++ xs) (ap (λ (k : ℕ). piece bs (i + 1) ++ all_points (drop k bs)) (let e : i + 2 ≡ i + 1 + 1 = omega arith in e)
    ∙ sym (joined_drop bs (i + 1) h)))
    ∙ sym (joined_cut bs i ∙ ap (λ (xs : List Position). all_points (take i bs) ++ xs) (joined_drop bs i (omega arith)))

-- p in place of the end of piece i, all pieces up to k, and the start of piece k
pub joined_across : (bs : List (List Position)) (i k a b : ℕ) (p : Position) → i < k → k < length bs → a ≤ length (piece bs i) → b ≤ length (piece bs k)
    → all_points (take i bs ++ (take a (piece bs i) ++ p ∷ []) ∷ drop b (piece bs k) ∷ drop (k + 1) bs) ≡ exchange (all_points bs) p (offset bs i + a)
    (offset bs k + b)
joined_across bs i k a b p ik h ha hb =
    joined_append (take i bs) ((take a (piece bs i) ++ p ∷ []) ∷ drop b (piece bs k) ∷ drop (k + 1) bs)
    ∙ regroup (all_points (take i bs)) (take a (piece bs i)) (drop b (piece bs k)) (all_points (drop (k + 1) bs)) p
    ∙ sym (ap (λ (xs : List Position). xs ++ p ∷ drop (offset bs k + b) (all_points bs)) (take_joined bs i a (omega arith) ha)
    ∙ ap (λ (xs : List Position). (all_points (take i bs) ++ take a (piece bs i)) ++ p ∷ xs) (drop_joined bs k b h hb))
  where
    regroup : (x y z w : List Position) (p : Position) → x ++ ((y ++ p ∷ []) ++ (z ++ w)) ≡ (x ++ y) ++ p ∷ (z ++ w)
    regroup x y z w p = simp append_assoc

-- the same to the end of the list
pub joined_to_end : (bs : List (List Position)) (i k a : ℕ) (p : Position) → i < length bs → k ≡ length bs → a ≤ length (piece bs i)
    → all_points (take i bs ++ (take a (piece bs i) ++ p ∷ []) ∷ []) ≡ exchange (all_points bs) p (offset bs i + a) (offset bs k + 0)
joined_to_end bs i k a p h e ha =
    joined_append (take i bs) ((take a (piece bs i) ++ p ∷ []) ∷ [])
    ∙ regroup (all_points (take i bs)) (take a (piece bs i)) p
    ∙ sym (ap (λ (xs : List Position). xs ++ p ∷ drop (offset bs k + 0) (all_points bs)) (take_joined bs i a h ha)
    ∙ ap (λ (xs : List Position). (all_points (take i bs) ++ take a (piece bs i)) ++ p ∷ xs) nothing)
  where
    nothing : drop (offset bs k + 0) (all_points bs) ≡ []
    nothing = drop_all (offset bs k + 0) (all_points bs) (omega (arith, offset_all bs k (omega (arith, e))))

    regroup : (x y : List Position) (p : Position) → x ++ ((y ++ p ∷ []) ++ []) ≡ (x ++ y) ++ p ∷ []
    regroup x y p = simp (append_assoc, append-nil)
