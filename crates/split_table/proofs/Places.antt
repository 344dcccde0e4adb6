-- Places in a text, as searches answer them.
use Rattle.std.proofs.Common.{◌≡◌, ◌≤◌, ℕ, Bool, List, Option, Some, None, cond, ltb, not, length, inl, inr, arith, refl}
use Rattle.std.proofs.lemmas.Bool.{cases_lt, le-ltb, lt-ltb}
use Rattle.std.proofs.lemmas.List.Sums.{prefix_len-le-length}
use Rattle.std.specs.List.{position, position_or_len}
use Rattle.std.specs.Option.{unwrap_or}

place_of : (place count : ℕ) → place ≤ count → unwrap_or (cond (ltb place count) (Some place) None) count ≡ place
place_of place count within = elim (cases_lt place count) [ inl less ↦ rw (lt-ltb place count less) refl | inr more ↦ rw (le-ltb place count more) (omega (arith, more, within)) ]

-- the first place, or the length where there is none
pub place_or_end : {X : Type 0} (p : X → Bool) (xs : List X) (found : Option ℕ) → found ≡ position p xs → unwrap_or found (length xs) ≡ position_or_len p xs
place_or_end p xs found e = rw e (place_of (position_or_len p xs) (length xs) (prefix_len-le-length (λ x. not (p x)) xs))
