-- Where two boxes are apart, the set in one covers no point in the other.
use Rattle.std.proofs.Common.{◌≡◌, refl, ap, subst, ◌∙◌, ◌≤ℤ◌, Bool, true, false, List, [], ◌∷◌, map, All, Contains, count_by, arith}
use Rattle.std.proofs.lemmas.Bool.{false_from_ne_true}
use Rattle.std.proofs.lemmas.Int.{ints}
use Rattle.std.proofs.lemmas.List.{get_or-map, length-map}
use Rattle.std.specs.Prelude.{◌||◌}
use Rattle.range_plane.specs.ConvexCover.{is_covered}
use Rattle.range_plane.specs.Laws.{BoxesHoldWhatIsCovered, CoveredIsDecided}
use Rattle.range_plane.specs.Plane.{IsInBox, Position, position}
use Rattle.range_lemmas.proofs.Members.{contains_first, contains_later}
use Rattle.range_lanes.specs.Extent.{IsExtent}
use Rattle.range_lanes.specs.declared.extent.Extent.{Extent}
use Rattle.range_stats.specs.Overlap.{overlap}
use Rattle.range_analysis.specs.Overlaps.{are_apart_by_easting, are_apart_by_northing}

-- what is true of each image is true of a member's
of_member : {X Y : Type 0} (P : Y → Type 0) (f : X → Y) (xs : List X) (x : X) → All P (map f xs) → Contains xs x → P (f x)
of_member P f xs x all c = subst P (get_or-map f xs c.0 x (f x) c.1 ∙ ap f c.2) (all c.0 (f x) (omega (arith, length-map xs f, c.1)))

-- the corners of a box
abbrev southwest : Extent → Position
southwest box = position box.min_e box.min_n

abbrev northeast : Extent → Position
northeast box = position box.max_e box.max_n

not_in_both : (a b : Extent) (p : Position) → (are_apart_by_easting a b || are_apart_by_northing a b) ≡ true → IsInBox (southwest a) (northeast a) p
    → IsInBox (southwest b) (northeast b) p → ⊥
not_in_both a b p apart in_a in_b = grind (arith, ints, in_a.west, in_a.south, in_a.east, in_a.north, in_b.west, in_b.south, in_b.east, in_b.north)

member_in_box : (set : List Position) (box : Extent) → IsExtent set box → (p : Position) → Contains set p → IsInBox (southwest box) (northeast box) p
member_in_box set box extent p m = record {
  west = of_member (λ x. box.min_e ≤ℤ x) (λ s. s.e) set p extent.min_e.1 m;
  south = of_member (λ x. box.min_n ≤ℤ x) (λ s. s.n) set p extent.min_n.1 m;
  east = of_member (λ x. x ≤ℤ box.max_e) (λ s. s.e) set p extent.max_e.1 m;
  north = of_member (λ x. x ≤ℤ box.max_n) (λ s. s.n) set p extent.max_n.1 m;
}

-- ---- none of the points is covered
counts_none : {X : Type 0} (test : X → Bool) (xs : List X) → ((x : X) → Contains xs x → test x ≡ false) → count_by test xs ≡ 0
counts_none test [] none = refl
counts_none test (x ∷ xs) none =
    let first = none x (contains_first x xs) in
    let rest = counts_none test xs (λ y m. none y (contains_later x xs y m)) in
    rw first rest

-- of two sets whose boxes lie apart, one covers no points of the other
pub apart_overlap_is_none : BoxesHoldWhatIsCovered → CoveredIsDecided → (points set : List Position) (a b : Extent) → IsExtent points a → IsExtent set b
    → (are_apart_by_easting a b || are_apart_by_northing a b) ≡ true → overlap points set ≡ 0
apart_overlap_is_none boxes decided points set a b in_a in_b apart =
    counts_none (is_covered set) points (λ p m. false_from_ne_true (is_covered set p)
    (λ t. not_in_both a b p apart (member_in_box points a in_a p m)
    (boxes set (southwest b) (northeast b) p (member_in_box set b in_b) ((decided set p).0 t))))
