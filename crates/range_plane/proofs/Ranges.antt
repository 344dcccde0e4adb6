-- What `all` over a range of indices answers.
use Rattle.std.proofs.Common.{◌≡◌, refl, sym, ◌∙◌, subst, ℕ, ◌+◌, ◌-◌, ◌<◌, ◌≤◌, ◌↔◌, Bool, true, false, IsTrue, length, arith}
use Rattle.std.proofs.lemmas.List.FromFn.{get_or-range_with_len, length-range_with_len}
use Rattle.std.specs.Bool.{MatchBool}
use Rattle.std.specs.List.{AllWithin, HoldsAt, range_with_len}

-- the answer is true exactly where P holds of each index from a on and below n
pub all_in_range : (a n : ℕ) (P : ℕ → Type 0) (r : Bool) → MatchBool r (AllWithin P (range_with_len a (n - a)) 0 (length (range_with_len a (n - a))))
    ((k : ℕ) × (k < length (range_with_len a (n - a))) × HoldsAt (λ i. P i → ⊥) (range_with_len a (n - a)) k) → IsTrue r ↔ ((i : ℕ) → a ≤ i → i < n → P i)
all_in_range a n P true m = (
  λ e i h k.
      let index : a + (i - a) ≡ i = omega arith in
      subst P (get_or-range_with_len a (n - a) (i - a) 0 (omega arith) ∙ index) (m (i - a) 0 (omega arith) (omega (arith, length-range_with_len a (n - a)))),
  λ f. refl,
)
all_in_range a n P false m = (
  λ e. absurd (let g : false ≡ true = e in cc),
  λ f.
      let k : m.0 < n - a = omega (arith, length-range_with_len a (n - a), m.1) in
      absurd (m.2 0 (subst P (sym (get_or-range_with_len a (n - a) m.0 0 k)) (f (a + m.0) (omega arith) (omega arith)))),
)
