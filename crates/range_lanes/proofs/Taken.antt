-- Corners that are taken from a polygon in their order, spread evenly over it, are a polygon.
use Rattle.std.proofs.Common.{◌≡◌, ◌≢◌, sym, subst, ◌∙◌, ℕ, zero, suc, ◌<◌, ◌≤◌, List, [], ◌∷◌, length, get_or, arith, suc-mul, inl, inr}
use Rattle.std.proofs.Common.{Contains, AllPairs}
use Rattle.std.proofs.Math.Nat.{mul-le-mul_right}
use Rattle.std.proofs.lemmas.Bool.{cases_eq}
use Rattle.range_plane.specs.Plane.{IsAtMost, Position}
use Rattle.range_plane.specs.Polygon.{BeginsWithLeast, IsPolygon, TurnsLeft}
use Rattle.range_plane.proofs.ForCallers.{covering_members_are_corners, sets_cover_their_members}
use Rattle.range_lanes.specs.InnerIndices.{index_of}
use Rattle.range_lanes.specs.declared.inner.TheConstants.{INNER_CORNERS}

next_index : (n i : ℕ) → INNER_CORNERS ≤ n → index_of i n < index_of (suc i) n
next_index n i many = omega (arith, suc-mul i n)

indices_rise : (n i j : ℕ) → INNER_CORNERS ≤ n → i < j → index_of i n < index_of j n
indices_rise n i zero many less = absurd (omega (arith, less))
indices_rise n i (suc j) many less =
    elim (cases_eq i j) [
      | inl same ↦ subst (λ k. index_of k n < index_of (suc j) n) (sym same) (next_index n j many)
      | inr other ↦ omega (arith, indices_rise n i j many (omega (arith, less, other)), next_index n j many)
    ]

index_within : (n i : ℕ) → INNER_CORNERS ≤ n → i < INNER_CORNERS → index_of i n < n
index_within n i many few =
    let first : suc i ≤ INNER_CORNERS = omega (arith, few) in
    omega (arith, suc-mul i n, mul-le-mul_right n first)

-- the corners at these indices
pub record AreTaken (L inner : List Position) : Type 0 where
  pub many : INNER_CORNERS ≤ length L
  pub count : length inner ≡ INNER_CORNERS
  pub each : (i : ℕ) (d : Position) → i < INNER_CORNERS → get_or inner i d ≡ get_or L (index_of i (length L)) d

module _ (L inner : List Position) (taken : AreTaken L inner) where
  abbrev index : ℕ → ℕ
  index i = index_of i (length L)

  rise : (i j : ℕ) → i < j → index i < index j
  rise i j less = indices_rise (length L) i j taken.many less

  inside : (i : ℕ) → i < length inner → i < INNER_CORNERS
  inside i within = omega (arith, taken.count, within)

  -- each of them is a corner of the polygon
  pub taken_members : (x : Position) → Contains inner x → Contains L x
  taken_members x member =
      let few = inside member.0 member.1 in
      (index member.0, index_within (length L) member.0 taken.many few, sym (taken.each member.0 x few) ∙ member.2)

  taken_distinct : AllPairs (λ a b. a ≢ b) L → AllPairs (λ a b. a ≢ b) inner
  taken_distinct distinct = λ i j d less within same.
      let few = inside j within in
      distinct (index i) (index j) d (rise i j less) (index_within (length L) j taken.many few)
      (sym (taken.each i d (omega (arith, less, few))) ∙ same ∙ taken.each j d few)

  taken_turns : TurnsLeft L → TurnsLeft inner
  taken_turns turns = λ i j k d first second within.
      let few = inside k within in
      rw (taken.each i d (omega (arith, first, second, few)), taken.each j d (omega (arith, second, few)), taken.each k d few)
      (turns (index i) (index j) (index k) d (rise i j first) (rise j k second) (index_within (length L) k taken.many few))

taken_least : (L inner : List Position) → AreTaken L inner → BeginsWithLeast L → BeginsWithLeast inner
taken_least [] inner taken least = absurd (omega (arith, taken.many))
taken_least (c ∷ L) [] taken least = tt
taken_least (c ∷ L) (a ∷ inner) taken least = λ x member.
    let start : index_of 0 (length (c ∷ L)) ≡ 0 = omega arith in
    let first : a ≡ c = taken.each 0 c (omega arith) ∙ (λ i. get_or (c ∷ L) (start i) c) in
    subst (λ y. IsAtMost y x) (sym first) (least x (taken_members (c ∷ L) (a ∷ inner) taken x member))

-- corners taken from a polygon at these indices are the polygon of themselves
pub taken_polygon : (L inner : List Position) → AreTaken L inner → IsPolygon L L → IsPolygon inner inner
taken_polygon L inner taken polygon =
    covering_members_are_corners inner inner (λ x member. member) (sets_cover_their_members inner) (taken_distinct L inner taken polygon.distinct)
    (taken_least L inner taken polygon.least_first) (taken_turns L inner taken polygon.convex)
