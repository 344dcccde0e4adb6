-- Places among words, as searches answer them.
use Rattle.std.proofs.Common.{◌≡◌, ◌≤◌, ℕ, Bool, List, Option, Some, None, cond, ltb, not, length, inl, inr, arith}
use Rattle.std.proofs.lemmas.Bool.{cases_lt, le-ltb, lt-ltb}
use Rattle.std.proofs.lemmas.List.Sums.{prefix_len-le-length}
use Rattle.std.specs.List.{position, position_or_len}

-- what a search found, and that it found nothing
pub place_found : {X : Type 0} (p : X → Bool) (xs : List X) (place : ℕ) → Some place ≡ position p xs → place ≡ position_or_len p xs
place_found p xs place e = by (position_or_len p xs) (length xs) e
  where
    by : (own count : ℕ) → Some place ≡ cond (ltb own count) (Some own) None → place ≡ own
    by own count e = elim (cases_lt own count) [ inl less ↦ cc (rw (lt-ltb own count less) at e) | inr more ↦ cc (rw (le-ltb own count more) at e) ]

pub place_missing : {X : Type 0} (p : X → Bool) (xs : List X) → ◌≡◌ {A = Option ℕ} None (position p xs) → length xs ≡ position_or_len p xs
place_missing p xs e = by (position_or_len p xs) (length xs) (prefix_len-le-length (λ x. not (p x)) xs) e
  where
    by : (own count : ℕ) → own ≤ count → ◌≡◌ {A = Option ℕ} None (cond (ltb own count) (Some own) None) → count ≡ own
    by own count within e = elim (cases_lt own count) [ inl less ↦ cc (rw (lt-ltb own count less) at e) | inr more ↦ omega (arith, more, within) ]
