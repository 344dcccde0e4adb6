-- The box of corners: its limits, and that it has each of them.
use Rattle.std.proofs.Common.{◌≡◌, sym, subst, ap, ◌∙◌, ℕ, ◌+◌, ◌<◌, ℤ, pos, ◌-ℤ◌, int_le, ◌&&◌, true, map, count_by, List, [], ◌∷◌, ◌++◌, length, get_or, take, Contains, inl, inr, arith, lit<, to_z, of_z, w64}
use Rattle.std.specs.Int.{int_min, int_max}
use Rattle.std.proofs.lemmas.Int.{ints, clamps}
use Rattle.std.proofs.lemmas.List.{take_more}
use Rattle.std.proofs.lemmas.List.Elements.{Contains-append_cases}
use lib.Lanes.{zip2}
use Rattle.range_plane.specs.ConvexCover.{is_covered}
use Rattle.range_plane.proofs.ForCallers.{boxes_hold_what_is_covered, covered_is_decided}
use Rattle.range_lanes.specs.Lanes.{is_in_box, is_not_negative}
use Rattle.range_lanes.proofs.Counts.{count_signs, none_pass}
use Rattle.range_lanes.proofs.Turns.{both_signs, map_same, signs_of_map, signs_of_negated}
use Rattle.range_lemmas.proofs.Members.{contained, empty_contains_nothing}
use Rattle.range_lemmas.proofs.Sizes.{kept}
use Rattle.range_plane.specs.Plane.{IsCoordinate, IsInBox, Position, coordinate_limit, position}

-- what code over i64 keeps of the smaller and of the greater of two coordinates
pub smaller_kept : (x y m : ℤ) → IsCoordinate x → IsCoordinate y → m ≡ int_min (to_z w64 (of_z w64 x)) (to_z w64 (of_z w64 y))
    → (to_z w64 (of_z w64 m) ≡ int_min x y) × IsCoordinate (to_z w64 (of_z w64 m))
smaller_kept x y m f g e =
    let same : m ≡ int_min x y = e ∙ ap (λ z. int_min z (to_z w64 (of_z w64 y))) (kept coordinate_limit (lit< tt) x f)
    ∙ ap (int_min x) (kept coordinate_limit (lit< tt) y g) in
    let limits : IsCoordinate m = (omega (arith, ints, clamps, same), omega (arith, ints, clamps, same)) in
    let stays = kept coordinate_limit (lit< tt) m limits in
    (stays ∙ same, subst IsCoordinate (sym stays) limits)

-- the greater of two coordinates is kept as it is, and is a coordinate
pub greater_kept : (x y m : ℤ) → IsCoordinate x → IsCoordinate y → m ≡ int_max (to_z w64 (of_z w64 x)) (to_z w64 (of_z w64 y))
    → (to_z w64 (of_z w64 m) ≡ int_max x y) × IsCoordinate (to_z w64 (of_z w64 m))
greater_kept x y m f g e =
    let same : m ≡ int_max x y = e ∙ ap (λ z. int_max z (to_z w64 (of_z w64 y))) (kept coordinate_limit (lit< tt) x f)
    ∙ ap (int_max x) (kept coordinate_limit (lit< tt) y g) in
    let limits : IsCoordinate m = (omega (arith, ints, clamps, same), omega (arith, ints, clamps, same)) in
    let stays = kept coordinate_limit (lit< tt) m limits in
    (stays ∙ same, subst IsCoordinate (sym stays) limits)

abbrev pub lower : Position → Position → Position
lower a b = position (int_min a.e b.e) (int_min a.n b.n)

abbrev pub higher : Position → Position → Position
higher a b = position (int_max a.e b.e) (int_max a.n b.n)

wider : (low high c p : Position) → IsInBox low high p → IsInBox (lower low c) (higher high c) p
wider low high c p h = record {
  west = omega (arith, ints, clamps, h.west);
  south = omega (arith, ints, clamps, h.south);
  east = omega (arith, ints, clamps, h.east);
  north = omega (arith, ints, clamps, h.north);
}

reaches : (low high c : Position) → IsInBox (lower low c) (higher high c) c
reaches low high c = record {
  west = omega (arith, ints, clamps);
  south = omega (arith, ints, clamps);
  east = omega (arith, ints, clamps);
  north = omega (arith, ints, clamps);
}

-- each member of the list lies in the box
abbrev pub AreInBox : Position → Position → List Position → Type 0
AreInBox low high points = (p : Position) → Contains points p → IsInBox low high p

-- a box of the first i points, made wider by the next, has this one too
pub box_more : (low high : Position) (points : List Position) (i : ℕ) (c : Position) → i < length points → get_or points i c ≡ c
    → AreInBox low high (take i points) → AreInBox (lower low c) (higher high c) (take (i + 1) points)
box_more low high points i c within here before = λ p member.
    let more : take (i + 1) points ≡ take i points ++ c ∷ [] = take_more points i c within ∙ ap (λ x. take i points ++ x ∷ []) here in
    elim (Contains-append_cases (take i points) (c ∷ []) p (subst (λ l. Contains l p) more member)) [
      | inl old ↦ wider low high c p (before p old)
      | inr new ↦ elim (contained c [] p new) [
        | inl same ↦ subst (IsInBox (lower low c) (higher high c)) (sym same) (reaches low high c)
        | inr none ↦ absurd (empty_contains_nothing p none)
      ]
    ]

-- ---- signs
ahead_sign : (low x : ℤ) → is_not_negative (x -ℤ low) ≡ int_le low x
ahead_sign low x = grind (arith, ints)

behind_sign : (high x : ℤ) → int_le (x -ℤ high) (pos 0) ≡ int_le x high
behind_sign high x = grind (arith, ints)

-- four numbers for each point, by how far it lies past each side, joined
pub box_signs : (low high : Position) (vs : List Position) (w s e n e' n' m m' z : List ℤ) → w ≡ map (λ p. p.e -ℤ low.e) vs
    → s ≡ map (λ p. p.n -ℤ low.n) vs → e ≡ map (λ p. p.e -ℤ high.e) vs → n ≡ map (λ p. p.n -ℤ high.n) vs
    → e' ≡ map (λ x. pos 0 -ℤ x) e → n' ≡ map (λ x. pos 0 -ℤ x) n
    → map is_not_negative m ≡ zip2 ◌&&◌ (map is_not_negative w) (map is_not_negative s)
    → map is_not_negative m' ≡ zip2 ◌&&◌ (map is_not_negative m) (map is_not_negative e')
    → map is_not_negative z ≡ zip2 ◌&&◌ (map is_not_negative m') (map is_not_negative n')
    → map is_not_negative z ≡ map (is_in_box low high) vs
box_signs low high vs w s e n e' n' m m' z hw hs he hn he' hn' hm hm' hz =
    let west = λ (p : Position). is_not_negative (p.e -ℤ low.e) in
    let south = λ (p : Position). is_not_negative (p.n -ℤ low.n) in
    let east = λ (p : Position). int_le (p.e -ℤ high.e) (pos 0) in
    let north = λ (p : Position). int_le (p.n -ℤ high.n) (pos 0) in
    let first = both_signs west south vs w s m (signs_of_map (λ p. p.e -ℤ low.e) vs w hw) (signs_of_map (λ p. p.n -ℤ low.n) vs s hs) hm in
    let second = both_signs (λ p. west p && south p) east vs m e' m' first (signs_of_negated (λ p. p.e -ℤ high.e) vs e e' he he') hm' in
    both_signs (λ p. (west p && south p) && east p) north vs m' n' z second (signs_of_negated (λ p. p.n -ℤ high.n) vs n n' hn hn') hz
    ∙ map_same (λ p. ((west p && south p) && east p) && north p) (is_in_box low high) (λ p. grind (
      arith,
      ahead_sign low.e p.e,
      ahead_sign low.n p.n,
      behind_sign high.e p.e,
      behind_sign high.n p.n,
    )) vs

-- what corners cover lies in their box, as tests
covered_passes : (L : List Position) (low high q : Position) → AreInBox low high L → is_covered L q ≡ true → is_in_box low high q ≡ true
covered_passes L low high q inside covered =
    let h = boxes_hold_what_is_covered L low high q inside ((covered_is_decided L q).0 covered) in
    grind (arith, ints, h.west, h.south, h.east, h.north)

-- where all of a group lie out of the corners' box, the corners cover none of it
pub none_covered : (L : List Position) (low high : Position) (vs : List Position) (zs : List ℤ) → AreInBox low high L
    → map is_not_negative zs ≡ map (is_in_box low high) vs → count_by is_not_negative zs ≡ 0 → 0 ≡ count_by (is_covered L) vs
none_covered L low high vs zs inside signs none =
    sym (none_pass (is_in_box low high) (is_covered L) (λ q. covered_passes L low high q inside) vs
    (sym (count_signs (is_in_box low high) vs zs signs) ∙ none))
