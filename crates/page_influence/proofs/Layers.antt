-- The polygon of all fixes but one, by two layers of fixes: one that stands for each corner, and the rest.
use Rattle.std.proofs.Common.{◌≡◌, ◌≢◌, ◌∙◌, ℕ, ◌+◌, ◌<◌, pos, ◌⊎◌, inl, inr, Contains, List, [], ◌∷◌, length, get_or, arith, sym, ap, subst}
use Rattle.std.specs.List.{remove}
use Rattle.std.proofs.lemmas.Bool.{cases_eq, cases_lt, cases_order}
use Rattle.std.proofs.lemmas.Grind.{get_or_default_zero, in_remove}
use Rattle.std.proofs.lemmas.List.{get_or_default}
use Rattle.std.proofs.lemmas.List.Edits.{get_or-remove_above, get_or-remove_below, length-remove}
use Rattle.std.proofs.lemmas.List.Elements.{Contains-append_cases, Contains-append_left, Contains-append_right}
use Rattle.range_lemmas.proofs.Members.{contained, contains_first, contains_later, empty_contains_nothing}
use Rattle.range_plane.specs.ConvexCover.{Covers}
use Rattle.range_plane.specs.Edges.{at}
use Rattle.range_plane.specs.Plane.{Position, origin}
use Rattle.range_plane.specs.Polygon.{IsPolygon, area2}
use Rattle.range_plane.proofs.ForCallers.{corners_cover_the_set, covering_members_are_corners, larger_sets_cover_more, sets_cover_their_members}
use Rattle.page_influence.specs.Layers.{AreAreasWithout, AreCornerFixes, IsOther, IsPolygonWithout, IsSetAt, other_corners}

-- ---- members of a list but one
-- a member is the one that is left out, or among the others
pub other_there : (points : List Position) (i j : ℕ) → i < length points → j < length points → j ≢ i → Contains (remove points i) (at points j)
other_there points i j left within apart =
    let there = in_remove points i j (at points j) left within (get_or_default points j origin (at points j) within) apart in there.1

-- and each of the others is another member
pub other_cases : (points : List Position) (i : ℕ) (x : Position) → i < length points → Contains (remove points i) x
    → (j : ℕ) × (j < length points) × (j ≢ i) × (at points j ≡ x)
other_cases points i x left (k, within, is) = elim (cases_lt k i) [
  | inl before ↦
      let own : k < length points = omega arith in
      (k, own, (λ same. omega (arith, same, before)), get_or_default points k origin x own ∙ sym (get_or-remove_below points i x k before left) ∙ is)
  | inr behind ↦
      let own : k + 1 < length points = omega (arith, length-remove points i left, within) in
      (k + 1, own, (λ same. omega (arith, same, behind)), get_or_default points (k + 1) origin x own ∙ sym (get_or-remove_above points i x k behind left) ∙ is)
]

-- a number is in a list of numbers, or not
pub in_or_other : (fixes : List ℕ) (i : ℕ) → Contains fixes i ⊎ IsOther fixes i
in_or_other [] i = inr (empty_contains_nothing i)
in_or_other (f ∷ fixes) i = elim (cases_eq i f) [
  | inl is ↦ inl (subst (Contains (f ∷ fixes)) (sym is) (contains_first f fixes))
  | inr apart ↦ elim (in_or_other fixes i) [
    | inl later ↦ inl (contains_later f fixes i later)
    | inr none ↦ inr (λ has. elim (contained f fixes i has) [ inl first ↦ apart first | inr later ↦ none later ])
  ]
]

-- ---- polygons
-- the polygon of some set, whose corners are members of another that it covers, is the polygon of that
pub polygon_by_members : (S U L : List Position) → IsPolygon U L → ((x : Position) → Contains L x → Contains S x)
    → ((x : Position) → Contains S x → Covers L x) → IsPolygon S L
polygon_by_members S U L polygon members covered = covering_members_are_corners S L members covered polygon.distinct polygon.least_first polygon.convex

-- no two corners of a polygon are at one place
corners_apart : (S L : List Position) → IsPolygon S L → (j k : ℕ) → j < length L → k < length L → j ≢ k → at L j ≢ at L k
corners_apart S L polygon j k one other apart = elim (cases_order j k) [
  | inl same ↦ absurd (apart same)
  | inr differ ↦ elim differ [
    | inl before ↦ polygon.distinct j k origin before other
    | inr behind ↦ λ same. polygon.distinct k j origin behind one (sym same)
  ]
]

module _ (points corners inner : List Position) (fixes : List ℕ) (outer : IsPolygonWithout points [] corners)
    (stand : AreCornerFixes points corners fixes) (rest : IsPolygonWithout points fixes inner) where
  -- the polygon of all covers each fix
  covers_all : (i : ℕ) → i < length points → Covers corners (at points i)
  covers_all i within = outer.covers i within (empty_contains_nothing i)

  -- no fix stands for two corners
  pub fixes_apart : (j k : ℕ) → j < length fixes → k < length fixes → j ≢ k → get_or fixes j 0 ≢ get_or fixes k 0
  fixes_apart j k one other apart same =
      corners_apart corners corners outer.polygon j k (omega (arith, one, stand.same_length)) (omega (arith, other, stand.same_length)) apart
      (sym (stand.there j one) ∙ ap (at points) same ∙ stand.there k other)

  -- a corner for which another fix stands is among the others
  corner_there : (f k : ℕ) → f < length points → k < length fixes → get_or fixes k 0 ≢ f → Contains (remove points f) (at corners k)
  corner_there f k left within apart =
      subst (Contains (remove points f)) (stand.there k within) (other_there points f (get_or fixes k 0) left (stand.within k within) apart)

  -- a fix that stands for no corner may be left out, and the polygon stays
  pub polygon_stays : (i : ℕ) → i < length points → IsOther fixes i → IsPolygon (remove points i) corners
  polygon_stays i left other = polygon_by_members (remove points i) corners corners outer.polygon members covered
    where
      members : (x : Position) → Contains corners x → Contains (remove points i) x
      members x (k, within, is) =
          let own : k < length fixes = omega (arith, within, stand.same_length) in
          let apart : get_or fixes k 0 ≢ i = λ same. other (k, own, get_or_default_zero fixes k i own ∙ same) in
          subst (Contains (remove points i)) (get_or_default corners k origin x within ∙ is) (corner_there i k left own apart)

      covered : (x : Position) → Contains (remove points i) x → Covers corners x
      covered x has = let (j, within, apart, is) = other_cases points i x left has in subst (Covers corners) is (covers_all j within)

  -- each fix but that which stands for a corner is at another corner, or among the rest
  set_covers : (k : ℕ) → k < length fixes → (i : ℕ) → i < length points → i ≢ get_or fixes k 0 → Covers (other_corners corners k inner) (at points i)
  set_covers k stands i within apart = elim (in_or_other fixes i) [
    | inl (j, own, is) ↦
        let is_own : get_or fixes j 0 ≡ i = get_or_default fixes j 0 i own ∙ is in
        let differ : j ≢ k = λ same. apart (sym is_own ∙ ap (λ m. get_or fixes m 0) same) in
        let here : Contains (remove corners k) (at corners j) =
        other_there corners k j (omega (arith, stands, stand.same_length)) (omega (arith, own, stand.same_length)) differ in
        let corner : at corners j ≡ at points i = sym (stand.there j own) ∙ ap (at points) is_own in
        sets_cover_their_members (other_corners corners k inner) (at points i)
        (Contains-append_left (remove corners k) inner (at points i) (subst (Contains (remove corners k)) corner here))
    | inr other ↦ larger_sets_cover_more inner (other_corners corners k inner) (at points i)
        (λ x has. Contains-append_right (remove corners k) inner x has) (rest.covers i within other)
  ]

  -- each other corner is at another fix, and so is each corner of the rest
  set_there : (k : ℕ) → k < length fixes → (x : Position) → Contains (other_corners corners k inner) x → Contains (remove points (get_or fixes k 0)) x
  set_there k stands x has = elim (Contains-append_cases (remove corners k) inner x has) [
    | inl old ↦
        let (j, within, differ, is) = other_cases corners k x (omega (arith, stands, stand.same_length)) old in
        let own : j < length fixes = omega (arith, within, stand.same_length) in
        subst (Contains (remove points (get_or fixes k 0))) is
        (corner_there (get_or fixes k 0) j (stand.within k stands) own (fixes_apart j k own stands differ))
    | inr new ↦
        let (i, within, other, is) = rest.members x new in
        let apart : i ≢ get_or fixes k 0 = λ same. other (k, stands, get_or_default_zero fixes k i stands ∙ sym same) in
        subst (Contains (remove points (get_or fixes k 0))) is (other_there points (get_or fixes k 0) i (stand.within k stands) within apart)
  ]

  -- without the fix that stands for a corner, the polygon is that of the other corners and of those of the rest
  pub polygon_without : (k : ℕ) → k < length fixes → (L : List Position) → IsPolygon (other_corners corners k inner) L
      → IsPolygon (remove points (get_or fixes k 0)) L
  polygon_without k stands L polygon =
      polygon_by_members (remove points (get_or fixes k 0)) (other_corners corners k inner) L polygon
      (λ x here. set_there k stands x ((polygon.corners x).0 here).member)
      (λ x has.
      let (i, within, apart, is) = other_cases points (get_or fixes k 0) x (stand.within k stands) has in
      subst (Covers L) is ((corners_cover_the_set (other_corners corners k inner) L polygon (at points i)).1 (set_covers k stands i within apart)))

  -- so areas that are set for fixes that stand for corners, where before was that of all, are those without each fix
  pub areas_are : (old new : List ℕ) → length new ≡ length points → ((i : ℕ) → i < length points → pos (get_or old i 0) ≡ area2 corners)
      → ((i : ℕ) → i < length points → IsSetAt corners inner fixes old new i) → AreAreasWithout points new
  areas_are old new size all set = record {
    same_length = size;
    each = λ i within. elim (set i within) [
      | inl (k, stands, is, area) ↦
          (area.0, subst (λ f. IsPolygon (remove points f) area.0) is (polygon_without k stands area.0 area.1), area.2)
      | inr (other, kept) ↦ (corners, polygon_stays i within other, ap pos kept ∙ all i within)
    ];
  }
