-- The least of the first members of a list, one after the other.
use Rattle.std.proofs.Common.{◌≡◌, refl, ◌+◌, ◌<◌, ◌≤◌, ◌⊎◌, inl, inr, ℕ, List, Contains, length, get_or, sym, ◌∙◌, subst, arith, eq-or-lt_of_le}
use Rattle.std.proofs.lemmas.List.{get_or_default, get_or_read}
use Rattle.range_plane.specs.Plane.{IsAtMost, IsBefore, Position, origin}
use Rattle.range_plane.specs.Polygon.{IsLeast}
use Rattle.range_plane.proofs.AtMost.{at_most_itself, through_most}

-- a member that is at most each of the first n
pub record IsLeastOfFirst (S : List Position) (n : ℕ) (c : Position) : Type 0 where
  pub member : Contains S c
  pub least : (k : ℕ) → k < n → IsAtMost c (get_or S k origin)

below : (n k : ℕ) → k < n + 1 → (k < n) ⊎ (k ≡ n)
below n k h = elim (eq-or-lt_of_le (let g : k ≤ n = omega arith in g)) [ inl e ↦ inr e | inr l ↦ inl l ]

read : (S : List Position) (n : ℕ) (p : Position) → n < length S → p ≡ get_or S n p → p ≡ get_or S n origin
read S n p within is = get_or_read S n p within is origin

-- the next one comes before it
pub least_next : (S : List Position) (n : ℕ) (c p : Position) → IsLeastOfFirst S n c → n < length S → p ≡ get_or S n p → IsBefore p c
    → IsLeastOfFirst S (n + 1) p
least_next S n c p l within is before = record {
  member = (n, within, sym is);
  least = λ k h. elim (below n k h) [
    | inl lt ↦ through_most p c (get_or S k origin) before.0 (l.least k lt)
    | inr e ↦ subst (λ x. IsAtMost p x) (read S n p within is ∙ subst (λ j. get_or S n origin ≡ get_or S j origin) (sym e) refl) (at_most_itself p)
  ];
}

-- and where it does not
pub least_stays : (S : List Position) (n : ℕ) (c p : Position) → IsLeastOfFirst S n c → n < length S → p ≡ get_or S n p → IsAtMost c p
    → IsLeastOfFirst S (n + 1) c
least_stays S n c p l within is after = record {
  member = l.member;
  least = λ k h. elim (below n k h) [
    | inl lt ↦ l.least k lt
    | inr e ↦ subst (λ x. IsAtMost c x) (read S n p within is ∙ subst (λ j. get_or S n origin ≡ get_or S j origin) (sym e) refl) after
  ];
}

-- the least of the first n members is the least of all where there are no more
pub least_all : (S : List Position) (n : ℕ) (c : Position) → IsLeastOfFirst S n c → length S ≤ n → IsLeast S c
least_all S n c l all = record {
  member = l.member;
  least = λ x m. subst (IsAtMost c) (get_or_default S m.0 origin x m.1 ∙ m.2)
      (l.least m.0 (omega (arith, m.1)));
}
