-- The polygon of some of the fixes, fix by fix, and which fixes have flags.
use Rattle.std.proofs.Common.{◌≡◌, ◌∙◌, ℕ, ◌+◌, ◌<◌, ◌≤◌, Bool, true, inl, inr, Contains, List, [], ◌∷◌, length, get_or, arith, sym, ap, subst}
use Rattle.std.proofs.lemmas.Bool.{cases_Bool, cases_eq, false≢true}
use Rattle.std.proofs.lemmas.List.{get_or_default}
use Rattle.range_lemmas.proofs.Members.{contained, contains_first, contains_later, empty_contains_nothing}
use Rattle.range_plane.specs.ConvexCover.{Covers}
use Rattle.range_plane.specs.Edges.{at}
use Rattle.range_plane.specs.Plane.{Position}
use Rattle.range_plane.specs.Polygon.{IsPolygon}
use Rattle.range_plane.proofs.ForCallers.{corners_cover_the_set, covering_members_are_corners, larger_sets_cover_more, polygon_of_its_corners, sets_cover_their_members}
use Rattle.page_influence.specs.Layers.{AreFlags, HasNoFlag, IsOther, IsPolygonOf, IsPolygonOfRest, IsPolygonWithout}

-- the polygon of some fixes is that of the same fixes in other words
of_same : (One Other : ℕ → Type 0) (points L : List Position) → ((i : ℕ) → i < length points → One i → Other i)
    → ((i : ℕ) → i < length points → Other i → One i) → IsPolygonOf One points L → IsPolygonOf Other points L
of_same One Other points L there back own = record {
  polygon = own.polygon;
  members = λ x has. let (i, within, one, is) = own.members x has in (i, within, there i within one, is);
  covers = λ i within other. own.covers i within (back i within other);
}

-- no points have the polygon of no corners
pub none_of_none : IsPolygon [] []
none_of_none =
    covering_members_are_corners [] [] (λ x has. has) (λ x has. absurd (empty_contains_nothing x has)) (λ i j d less inside. absurd (omega (arith, inside)))
    tt (λ i j k d less later inside. absurd (omega (arith, inside)))

-- one of the first n fixes that has no flag
abbrev pub IsBefore : List Bool → ℕ → ℕ → Type 0
IsBefore flags n i = (i < n) × HasNoFlag flags i

module _ (points : List Position) (flags : List Bool) where
  pub begun : IsPolygonOf (IsBefore flags 0) points []
  begun = record {
    polygon = none_of_none;
    members = λ x has. absurd (empty_contains_nothing x has);
    covers = λ i within own. absurd (omega (arith, own.0));
  }

  -- a fix that has a flag changes nothing
  pub passed : (n : ℕ) (L : List Position) → get_or flags n true ≡ true → IsPolygonOf (IsBefore flags n) points L
      → IsPolygonOf (IsBefore flags (n + 1)) points L
  passed n L flagged =
      of_same (IsBefore flags n) (IsBefore flags (n + 1)) points L (λ i within own. (omega (arith, own.0), own.1)) (λ i within own. elim (cases_eq i n) [
        | inl here ↦ absurd (false≢true (sym own.1 ∙ ap (λ k. get_or flags k true) here ∙ flagged))
        | inr apart ↦ (omega (arith, own.0, apart), own.1)
      ])

  -- one that has none is added
  pub added : (n : ℕ) (L M : List Position) → n < length points → HasNoFlag flags n → IsPolygonOf (IsBefore flags n) points L
      → IsPolygon (at points n ∷ L) M → IsPolygonOf (IsBefore flags (n + 1)) points M
  added n L M within free own more = record {
    polygon = polygon_of_its_corners (at points n ∷ L) M more;
    members = λ x has. elim (contained (at points n) L x ((more.corners x).0 has).member) [
      | inl new ↦ (n, within, (omega arith, free), sym new)
      | inr old ↦ let (i, inside, one, is) = own.members x old in (i, inside, (omega (arith, one.0), one.1), is)
    ];
    covers = λ i inside one. (corners_cover_the_set (at points n ∷ L) M more (at points i)).1 (elim (cases_eq i n) [
      | inl here ↦ subst (λ k. Covers (at points n ∷ L) (at points k)) (sym here)
          (sets_cover_their_members (at points n ∷ L) (at points n) (contains_first (at points n) L))
      | inr apart ↦ larger_sets_cover_more L (at points n ∷ L) (at points i) (contains_later (at points n) L)
          (own.covers i inside (omega (arith, one.0, apart), one.1))
    ]);
  }

  -- until all fixes were gone through
  pub ended : (n : ℕ) (L : List Position) → length points ≤ n → IsPolygonOf (IsBefore flags n) points L → IsPolygonOfRest points flags L
  ended n L all = of_same (IsBefore flags n) (HasNoFlag flags) points L (λ i within own. own.1) (λ i within free. (omega (arith, all, within), free))

  -- where these fixes have flags, the others have none
  pub rest_is_other : (fixes : List ℕ) (L : List Position) → AreFlags (length points) fixes flags → IsPolygonOfRest points flags L
      → IsPolygonWithout points fixes L
  rest_is_other fixes L marked = of_same (HasNoFlag flags) (IsOther fixes) points L (λ i within free has. taken i free has)
      (λ i within other. elim (cases_Bool (get_or flags i true)) [ inl flagged ↦ absurd (other (marked.only i within flagged)) | inr free ↦ free ])
    where
      taken : (i : ℕ) → HasNoFlag flags i → Contains fixes i → ⊥
      taken i free (k, inside, is) =
          false≢true (sym free ∙ ap (λ j. get_or flags j true) (sym (get_or_default fixes k 0 i inside ∙ is)) ∙ marked.flagged k inside)
