-- A search among corners, which halves the part that a point lies in.
use Rattle.std.proofs.Common.{◌≡◌, sym, subst, ℕ, ◌+◌, ◌-◌, ◌/◌, ◌<◌, ◌≤◌, ◌⊎◌, inl, inr, Bool, true, false, if◌then◌else◌, List, length, slice_index_or, arith}
use Rattle.std.proofs.lemmas.List.{get_or_default}
use Rattle.std.specs.Bool.{OnFalse, OnTrue}
use Rattle.range_plane.specs.Edges.{at}
use Rattle.range_plane.specs.Plane.{Position}

-- the corner at index i, the first after the last
abbrev pub around : List Position → ℕ → Position
around L i = slice_index_or L i (at L 0)

-- from `start` to `end`, the corner at `low` is passed, and the one `size` indices on is the first reached or comes after it
pub record IsBetween (L : List Position) (start end : ℕ) (Passed Reached : Position → Type 0) (low size : ℕ) : Type 0 where
  pub some : 0 < size
  pub from : start ≤ low
  pub to : low + size ≤ end
  pub passed : Passed (at L low)
  pub reached : Reached (around L (low + size))

-- once reached, corners stay so
abbrev pub Stays : List Position → ℕ → ℕ → (Position → Type 0) → Type 0
Stays L start end Reached = (i : ℕ) → start ≤ i → i + 1 < end → Reached (at L i) → Reached (at L (i + 1))

module _ (L : List Position) (start end : ℕ) (Passed Reached : Position → Type 0) (within : end ≤ length L) (stays : Stays L start end Reached) where
  around_inner : (i : ℕ) → i < end → Reached (at L i) → Reached (around L i)
  around_inner i h r = subst Reached (get_or_default L i _ (at L 0) (omega arith)) r

  -- the corner in the middle says which part to go on with; either has as many indices, and one index is not halved
  pub halved : (low size step : ℕ) (b : Bool) → IsBetween L start end Passed Reached low size → step ≡ (if b then size / 2 else 0)
      → OnTrue b (Passed (at L (low + size / 2))) → OnFalse b (Reached (at L (low + size / 2)))
      → IsBetween L start end Passed Reached (low + step) (size - size / 2)
  halved low size step true i e yes' no' = record {
    some = omega (arith, i.some);
    from = omega (arith, i.from);
    to = omega (arith, i.to, e);
    passed = subst (λ k. Passed (at L (low + k))) (sym e) yes';
    reached = subst (λ k. Reached (around L k)) (let f : low + size ≡ low + step + (size - size / 2) = omega (arith, e) in f) i.reached;
  }
  halved low size step false i e yes' no' = record {
    some = omega (arith, i.some);
    from = omega (arith, i.from);
    to = omega (arith, i.to, e);
    passed = subst (λ k. Passed (at L k)) (let f : low ≡ low + step = omega (arith, e) in f) i.passed;
    reached = subst (λ k. Reached (around L k)) (let f : low + (size - size / 2) ≡ low + step + (size - size / 2) = omega (arith, e) in f)
        (by_size (one_or_more size i.some));
  }
    where
      -- one index, an even number of them, or a greater odd one
      one_or_more : (m : ℕ) → 0 < m → (m ≡ m - m / 2) ⊎ ((m - m / 2 ≡ m / 2) ⊎ ((m - m / 2 ≡ m / 2 + 1) × (1 < m)))
      one_or_more m h = grind arith

      by_size : (size ≡ size - size / 2) ⊎ ((size - size / 2 ≡ size / 2) ⊎ ((size - size / 2 ≡ size / 2 + 1) × (1 < size)))
          → Reached (around L (low + (size - size / 2)))
      by_size (inl one) = subst (λ k. Reached (around L (low + k))) one i.reached
      by_size (inr (inl even)) = subst (λ k. Reached (around L (low + k))) (sym even) (around_inner (low + size / 2) (omega (arith, i.to, i.some, even)) no')
      by_size (inr (inr odd)) =
          subst (λ k. Reached (around L k)) (let f : low + size / 2 + 1 ≡ low + (size - size / 2) = omega (arith, odd.0) in f)
          (around_inner (low + size / 2 + 1) (omega (arith, i.to, odd.0, odd.1))
          (stays (low + size / 2) (omega (arith, i.from)) (omega (arith, i.to, odd.0, odd.1)) no'))
