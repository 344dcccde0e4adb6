-- Parts of lists that are moved, taken out and put together.
use Rattle.std.proofs.Common.{◌≡◌, sym, ap, ◌∙◌, ℕ, suc, ◌+◌, ◌-◌, ◌<◌, ◌≤◌, inl, inr, List, ◌∷◌, ◌++◌, length, take, drop, get_or, set, arith}
use Rattle.std.proofs.Common.{length-append, length-drop}
use Rattle.std.proofs.lemmas.Bool.{cases_lt}
use Rattle.std.proofs.lemmas.List.{get_or_append_left, get_or-take, get_or-drop, get_or-append_right, length-take-le, ext_get_or, take-take, set_split}
use Rattle.std.proofs.lemmas.List.{take-append-le, drop_at}
use Rattle.std.specs.List.{remove}

-- the elements from `to` on of `old` stand in `new` from `from` on, k of them so far
pub record IsShifted {X : Type 0} (d : X) (old new : List X) (from to k : ℕ) : Type 0 where
  pub len : length new ≡ length old
  pub front : (m : ℕ) → m < from → get_or new m d ≡ get_or old m d
  pub moved : (m : ℕ) → m < k → get_or new (from + m) d ≡ get_or old (to + m) d
  pub rest : (m : ℕ) → to + k ≤ m → get_or new m d ≡ get_or old m d

-- once all elements from `to` on are moved, those between are gone
pub shifted_all : {X : Type 0} (d : X) (old new : List X) (from to k n : ℕ) → from ≤ to → to ≤ length old → k ≡ length old - to → n ≡ from + k
    → IsShifted d old new from to k → take n new ≡ take from old ++ drop to old
shifted_all {X} d old new from to k n le within e f s =
    let a : length (take from old) ≡ from = length-take-le from old (omega arith) in
    let b : length (drop to old) ≡ k = length-drop to old ∙ sym e in
    let c : length (take n new) ≡ n = length-take-le n new (omega (arith, s.len)) in
    let g : n ≡ length (take from old ++ drop to old) = omega (arith, length-append (take from old) (drop to old), a, b) in
    ext_get_or d (take n new) (take from old ++ drop to old) (c ∙ g)
    (λ m h.
    let h' : m < n = omega (arith, h, c) in
    get_or-take n new m d h' ∙ elim (cases_lt m from) [
      | inl l ↦ s.front m l ∙ sym (get_or-take from old m d l) ∙ sym (get_or_append_left (take from old) (drop to old) d m (omega (arith, a, l)))
      | inr r ↦
          let x : ℕ = m - from in
          let q : from + x ≡ m = omega (arith, r) in
          ap (λ (y : ℕ). get_or new y d) (sym q) ∙ s.moved x (omega (arith, r, h', f)) ∙ sym (get_or-drop to old x d)
          ∙ sym (get_or-append_right (take from old) (drop to old) from m d a r)
    ])

-- two neighbours leave, and y takes their place
pub set_remove : {X : Type 0} (xs : List X) (i : ℕ) (y : X) → i + 1 < length xs → set (remove xs (i + 1)) i y ≡ take i xs ++ y ∷ drop (i + 2) xs
set_remove xs i y h =
    let n : length (take (i + 1) xs) ≡ i + 1 = length-take-le (i + 1) xs (omega arith) in
    let whole : i < length (remove xs (i + 1)) = omega (arith, length-append (take (i + 1) xs) (drop (suc (i + 1)) xs), n) in
    let front : take i (remove xs (i + 1)) ≡ take i xs = take-append-le i (take (i + 1) xs) (drop (suc (i + 1)) xs) (omega (arith, n))
    ∙ take-take i (i + 1) xs (omega arith) in
    let back : drop (suc i) (remove xs (i + 1)) ≡ drop (i + 2) xs = drop_at (take (i + 1) xs) (drop (suc (i + 1)) xs) (suc i) (omega (arith, n))
    ∙ ap (λ (k : ℕ). drop k xs) (let e : suc (i + 1) ≡ i + 2 = omega arith in e) in
    set_split (remove xs (i + 1)) i y whole ∙ ap (λ ys. ys ++ y ∷ drop (suc i) (remove xs (i + 1))) front ∙ ap (λ ys. take i xs ++ y ∷ ys) back
