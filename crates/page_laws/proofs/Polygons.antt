-- How many corners and which doubled area a polygon may have.
use Rattle.std.proofs.Common.{◌≡◌, ◌≢◌, ◌≤◌, suc, ℤ, pos, ◌*◌, ◌+ℤ◌, ◌-ℤ◌, ◌*ℤ◌, ◌≤ℤ◌, ◌<ℤ◌, List, [], ◌∷◌, length, All, AllPairs, Contains, get_or, arith, ap, sym, ◌∙◌, inl, inr}
use Rattle.std.proofs.lemmas.Grind.{in_remove}
use Rattle.std.proofs.lemmas.Int.{by_lt_z}
use Rattle.std.proofs.lemmas.List.{get_or_default}
use Rattle.std.proofs.lemmas.List.Edits.{length-remove}
use Rattle.std.proofs.lemmas.List.Elements.{All-contains, All-head, All-tail, Contains-get_or}
use Rattle.std.specs.List.{remove}
use Rattle.range_lemmas.proofs.Integers.{linear, nonneg_product, nonpos_product, positive_product, product_comm}
use Rattle.range_lemmas.proofs.Members.{contains_first, contains_later}
use Rattle.range_lemmas.proofs.Ring.{num, var, ◌⊕◌, ◌⊖◌, ◌⊗◌, ring}
use Rattle.range_plane.specs.Plane.{IsAtMost, IsWithinLimits, Position, coordinate_limit, turn, turn_limit}
use Rattle.range_plane.specs.Polygon.{BeginsWithLeast, IsPolygon, TurnsLeft, area2, shoelace}

-- ---- corners
-- what stands at one place of a list is one
same_place : {X : Type 0} (S : List X) (c x : X) (own : Contains S c) (place : Contains S x) → place.0 ≡ own.0 → c ≡ x
same_place S c x own place same =
    sym own.2 ∙ get_or_default S own.0 c x own.1 ∙ ap (λ k. get_or S k x) (sym same) ∙ place.2

-- members of a list, each another, are no more than the list has
few_members : {X : Type 0} (L S : List X) → AllPairs (λ a b. a ≢ b) L → ((x : X) → Contains L x → Contains S x) → length L ≤ length S
few_members [] S distinct member = omega arith
few_members (c ∷ L) S distinct member =
    let own = member c (contains_first c L) in
    let others = few_members L (remove S own.0) (λ i j d h l. distinct (suc i) (suc j) d (omega (arith, h)) (omega (arith, l)))
    (λ x there. let place = member x (contains_later c L x there) in
    (in_remove S own.0 place.0 x own.1 place.1 (sym place.2)
    (λ same. distinct 0 (suc there.0) x (omega arith) (omega (arith, there.1)) (same_place S c x own place same ∙ sym there.2))).1) in
    omega (arith, others, length-remove S own.0 own.1)

-- a polygon has no more corners than its set has members
pub few_corners : (S L : List Position) → IsPolygon S L → length L ≤ length S
few_corners S L polygon = few_members L S polygon.distinct (λ x own. ((polygon.corners x).0 own).member)

-- corners are members
pub corners_within : (S L : List Position) → IsPolygon S L → All IsWithinLimits S → All IsWithinLimits L
corners_within S L polygon limits =
    λ k d within. All-contains IsWithinLimits S _ limits ((polygon.corners _).0 (Contains-get_or L k d within)).member

-- ---- the doubled area
scaled : (u v w : ℤ) → pos 0 ≤ℤ u → v ≤ℤ w → (u *ℤ v) ≤ℤ (u *ℤ w)
scaled u v w h k =
    let apart : u *ℤ (w -ℤ v) ≡ u *ℤ w -ℤ u *ℤ v = ring (u ∷ v ∷ w ∷ []) (var 0 ⊗ (var 2 ⊖ var 1)) (var 0 ⊗ var 2 ⊖ var 0 ⊗ var 1) tt in
    omega (arith, linear, nonneg_product u (w -ℤ v) h (omega (arith, linear)), apart)

-- what lies under an edge, which is negative where the edge goes east
unfoldable under : Position → Position → ℤ
under a b = (a.e -ℤ b.e) *ℤ (a.n +ℤ b.n)

-- the box between the axes and a point
unfoldable below : Position → ℤ
below a = a.e *ℤ a.n

edge_under : (a b : Position) → a.e *ℤ b.n -ℤ b.e *ℤ a.n ≡ under a b -ℤ below a +ℤ below b
unfolding under below
edge_under a b =
    let x = var 0 in let x' = var 1 in let y = var 2 in let y' = var 3 in
    ring (a.e ∷ a.n ∷ b.e ∷ b.n ∷ []) (x ⊗ y' ⊖ y ⊗ x') ((x ⊖ y) ⊗ (x' ⊕ y') ⊖ x ⊗ x' ⊕ y ⊗ y') tt

-- twice the greatest northing
abbrev height : ℤ
height = pos (2 * coordinate_limit)

-- an edge that goes west has no more under it than the whole strip
under_west : (a b : Position) → IsWithinLimits a → IsWithinLimits b → b.e ≤ℤ a.e → under a b ≤ℤ (height *ℤ (a.e -ℤ b.e))
unfolding under
under_west a b limits_a limits_b west =
    omega (
      arith,
      linear,
      scaled (a.e -ℤ b.e) (a.n +ℤ b.n) height (omega (arith, linear)) (omega (arith, linear, limits_a.1.1, limits_b.1.1)),
      product_comm (a.e -ℤ b.e) height,
    )

-- one that goes east takes off
under_east : (a b : Position) → IsWithinLimits a → IsWithinLimits b → a.e ≤ℤ b.e → under a b ≤ℤ pos 0
unfolding under
under_east a b limits_a limits_b east =
    let both : (a.e -ℤ b.e) *ℤ (a.n +ℤ b.n) +ℤ (b.e -ℤ a.e) *ℤ (a.n +ℤ b.n) ≡ pos 0 =
    (let x = var 0 in let x' = var 1 in let y = var 2 in let y' = var 3 in
    ring (a.e ∷ a.n ∷ b.e ∷ b.n ∷ []) ((x ⊖ y) ⊗ (x' ⊕ y') ⊕ (y ⊖ x) ⊗ (x' ⊕ y')) (num (pos 0)) tt) in
    omega (arith, linear, nonneg_product (b.e -ℤ a.e) (a.n +ℤ b.n) (omega (arith, linear)) (omega (arith, linear, limits_a.1.0, limits_b.1.0)), both)

-- of four corners whose first is the westernmost, the fourth is not east of the third where the third is not east of the second
four_corners : (c a b d : Position) → turn a b d *ℤ (c.e -ℤ b.e) ≡ turn c b d *ℤ (a.e -ℤ b.e) +ℤ turn c a b *ℤ (d.e -ℤ b.e)
unfolding turn
four_corners c a b d =
    let x = var 0 in let x' = var 1 in let y = var 2 in let y' = var 3 in let z = var 4 in let z' = var 5 in let w = var 6 in let w' = var 7 in
    ring (c.e ∷ c.n ∷ a.e ∷ a.n ∷ b.e ∷ b.n ∷ d.e ∷ d.n ∷ [])
    (((z ⊖ y) ⊗ (w' ⊖ y') ⊖ (z' ⊖ y') ⊗ (w ⊖ y)) ⊗ (x ⊖ z))
    (((z ⊖ x) ⊗ (w' ⊖ x') ⊖ (z' ⊖ x') ⊗ (w ⊖ x)) ⊗ (y ⊖ z) ⊕ ((y ⊖ x) ⊗ (z' ⊖ x') ⊖ (y' ⊖ x') ⊗ (z ⊖ x)) ⊗ (w ⊖ z)) tt

stays_west : (c a b d : Position) → pos 0 <ℤ turn c a b → pos 0 <ℤ turn c b d → pos 0 <ℤ turn a b d → c.e ≤ℤ b.e → b.e ≤ℤ a.e → d.e ≤ℤ b.e
stays_west c a b d first second third least west =
    by_lt_z b.e d.e
    (λ east. absurd (omega (
      arith,
      linear,
      four_corners c a b d,
      nonpos_product (turn a b d) (c.e -ℤ b.e) (omega (arith, linear, third)) (omega (arith, linear, least)),
      nonneg_product (turn c b d) (a.e -ℤ b.e) (omega (arith, linear, second)) (omega (arith, linear, west)),
      positive_product (turn c a b) (d.e -ℤ b.e) first (omega (arith, linear, east)),
    )))
    (λ is. is)

-- corners within the limits, none of them west of c
abbrev AreEast : Position → List Position → Type 0
AreEast c L = All (λ x. IsWithinLimits x × (c.e ≤ℤ x.e)) L

-- corners that go counterclockwise round c, and turn left
record GoRound (c : Position) (L : List Position) : Type 0 where
  round : AllPairs (λ x y. pos 0 <ℤ turn c x y) L
  left : TurnsLeft L

rounds_on : (c a : Position) (L : List Position) → GoRound c (a ∷ L) → GoRound c L
rounds_on c a L goes = record {
  round = λ i j d h l. goes.round (suc i) (suc j) d (omega (arith, h)) (omega (arith, l));
  left = λ i j k d h l m. goes.left (suc i) (suc j) (suc k) d (omega (arith, h)) (omega (arith, l)) (omega (arith, m));
}

-- the next corner, if there is one, is not east
abbrev GoesWest : Position → List Position → Type 0
GoesWest a [] = Unit {0}
GoesWest a (b ∷ L) = b.e ≤ℤ a.e

keeps_west : (c a b : Position) (L : List Position) → GoRound c (a ∷ b ∷ L) → c.e ≤ℤ b.e → b.e ≤ℤ a.e → GoesWest b L
keeps_west c a b [] goes least west = tt
keeps_west c a b (d ∷ L) goes least west =
    stays_west c a b d (goes.round 0 1 c (omega arith) (omega arith)) (goes.round 1 2 c (omega arith) (omega arith))
    (goes.left 0 1 2 c (omega arith) (omega arith) (omega arith)) least west

runs : (h a b c : ℤ) → h *ℤ (a -ℤ b) +ℤ h *ℤ (b -ℤ c) ≡ h *ℤ (a -ℤ c)
runs h a b c =
    ring (h ∷ a ∷ b ∷ c ∷ []) (var 0 ⊗ (var 1 ⊖ var 2) ⊕ var 0 ⊗ (var 2 ⊖ var 3)) (var 0 ⊗ (var 1 ⊖ var 3)) tt

-- from a corner back to c, where all go west
west_only : (c a : Position) (L : List Position) → IsWithinLimits c → AreEast c (a ∷ L) → GoRound c (a ∷ L) → GoesWest a L
    → (shoelace c (a ∷ L) +ℤ below a -ℤ below c) ≤ℤ (height *ℤ (a.e -ℤ c.e))
west_only c a [] limits east goes west =
    let own = All-head (λ x. IsWithinLimits x × (c.e ≤ℤ x.e)) a [] east in
    omega (arith, linear, edge_under a c, under_west a c own.0 limits own.1)
west_only c a (b ∷ L) limits east goes west =
    let own = All-head (λ x. IsWithinLimits x × (c.e ≤ℤ x.e)) a (b ∷ L) east in
    let others = All-tail (λ x. IsWithinLimits x × (c.e ≤ℤ x.e)) a (b ∷ L) east in
    let next = All-head (λ x. IsWithinLimits x × (c.e ≤ℤ x.e)) b L others in
    omega (
      arith,
      linear,
      edge_under a b,
      under_west a b own.0 next.0 west,
      west_only c b L limits others (rounds_on c a (b ∷ L) goes) (keeps_west c a b L goes next.1 west),
      runs height a.e b.e c.e,
    )

to_limit : (c a : Position) → IsWithinLimits c → IsWithinLimits a → (height *ℤ (a.e -ℤ c.e)) ≤ℤ pos turn_limit
to_limit c a limits_c limits_a = scaled height (a.e -ℤ c.e) (pos coordinate_limit) (omega (arith, linear)) (omega (arith, linear, limits_c.0.0, limits_a.0.1))

-- from a corner back to c
back_to : (c a : Position) (L : List Position) → IsWithinLimits c → AreEast c (a ∷ L) → GoRound c (a ∷ L)
    → (shoelace c (a ∷ L) +ℤ below a -ℤ below c) ≤ℤ pos turn_limit
back_to c a [] limits east goes =
    let own = All-head (λ x. IsWithinLimits x × (c.e ≤ℤ x.e)) a [] east in
    omega (arith, linear, west_only c a [] limits east goes tt, to_limit c a limits own.0)
back_to c a (b ∷ L) limits east goes =
    let own = All-head (λ x. IsWithinLimits x × (c.e ≤ℤ x.e)) a (b ∷ L) east in
    let others = All-tail (λ x. IsWithinLimits x × (c.e ≤ℤ x.e)) a (b ∷ L) east in
    let next = All-head (λ x. IsWithinLimits x × (c.e ≤ℤ x.e)) b L others in
    by_lt_z a.e b.e
    (λ rises. omega (
      arith,
      linear,
      edge_under a b,
      under_east a b own.0 next.0 (omega (arith, linear, rises)),
      back_to c b L limits others (rounds_on c a (b ∷ L) goes),
    ))
    (λ west. omega (arith, linear, west_only c a (b ∷ L) limits east goes west, to_limit c a limits own.0))

-- the doubled area is at most that of the square of all points
area_of_corners : (L : List Position) → All IsWithinLimits L → BeginsWithLeast L → TurnsLeft L → area2 L ≤ℤ pos turn_limit
area_of_corners [] limits least left = omega (arith, linear)
area_of_corners (c ∷ []) limits least left = omega (arith, linear)
area_of_corners (c ∷ a ∷ []) limits least left = omega (arith, linear)
area_of_corners (c ∷ a ∷ b ∷ L) limits least left =
    let own = All-head IsWithinLimits c (a ∷ b ∷ L) limits in
    let others = All-tail IsWithinLimits c (a ∷ b ∷ L) limits in
    let next = All-head IsWithinLimits a (b ∷ L) others in
    let east : AreEast c (a ∷ b ∷ L) = λ k d within. (others k d within, easting c _ (least _ (contains_later c (a ∷ b ∷ L) _ (Contains-get_or (a ∷ b ∷ L) k d within)))) in
    let goes : GoRound c (a ∷ b ∷ L) = record {
      round = λ i j d h l. left 0 (suc i) (suc j) d (omega arith) (omega (arith, h)) (omega (arith, l));
      left = λ i j k d h l m. left (suc i) (suc j) (suc k) d (omega (arith, h)) (omega (arith, l)) (omega (arith, m));
    } in
    omega (
      arith,
      linear,
      edge_under c a,
      under_east c a own next (east 0 a (omega arith)).1,
      back_to c a (b ∷ L) own east goes,
    )
  where
    easting : (x y : Position) → IsAtMost x y → x.e ≤ℤ y.e
    easting x y (inl before) = omega (arith, linear, before)
    easting x y (inr same) = omega (arith, linear, same.0)

pub area_within : (S L : List Position) → IsPolygon S L → All IsWithinLimits S → area2 L ≤ℤ pos turn_limit
area_within S L polygon limits = area_of_corners L (corners_within S L polygon limits) polygon.least_first polygon.convex
