-- The place that a search finds.
use Rattle.std.proofs.Common.{◌≡◌, ◌≤◌, ℕ, Option, Some, None, cond, ltb, inl, inr, arith}
use Rattle.std.proofs.lemmas.Bool.{cases_lt, lt-ltb, le-ltb}

pub place_found : (place count found : ℕ) → Some found ≡ cond (ltb place count) (Some place) None → found ≡ place
place_found place count found e = elim (cases_lt place count) [ inl less ↦ cc (rw (lt-ltb place count less) at e) | inr more ↦ cc (rw (le-ltb place count more) at e) ]

pub none_found : (place count : ℕ) → place ≤ count → ◌≡◌ {A = Option ℕ} None (cond (ltb place count) (Some place) None) → count ≡ place
none_found place count within e = elim (cases_lt place count) [ inl less ↦ cc (rw (lt-ltb place count less) at e) | inr more ↦ omega (arith, more, within) ]
