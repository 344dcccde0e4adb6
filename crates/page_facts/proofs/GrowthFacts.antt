-- The first area from which on all are within 95 per cent.
use Rattle.std.proofs.Common.{◌≡◌, ℕ, zero, suc, ◌+◌, ◌<◌, ◌≤◌, true, false, List, [], ◌∷◌, length, get_or, drop, refl, ap, arith, inl, inr, below_more, length-drop}
use Rattle.std.proofs.lemmas.Bool.{cases_Bool}
use Rattle.std.proofs.lemmas.List.{get_or-drop}
use Rattle.std.specs.List.{list_all}
use Rattle.page_facts.specs.Growth.{before_within, is_within}

-- not all are within where one is not
one_is_not : (last : ℕ) (areas : List ℕ) (place : ℕ) → place < length areas → is_within last (get_or areas place 0) ≡ false
    → list_all (is_within last) areas ≡ false
one_is_not last [] place within own = absurd (omega (arith, within))
one_is_not last (area2 ∷ areas) zero within own = rw own refl
one_is_not last (area2 ∷ areas) (suc place) within own =
    elim (cases_Bool (is_within last area2)) [
      | inl is ↦ rw is (one_is_not last areas place (omega (arith, within)) own)
      | inr not_so ↦ rw not_so refl
    ]

-- then one more stands before the first
one_before : (last area2 : ℕ) (areas : List ℕ) → list_all (is_within last) (area2 ∷ areas) ≡ false
    → before_within last (area2 ∷ areas) ≡ 1 + before_within last areas
unfolding before_within
one_before last area2 areas not_all = rw not_all refl

-- so the first stands behind one that is not
pub behind_one : (last : ℕ) (areas : List ℕ) (place : ℕ) → place < length areas → is_within last (get_or areas place 0) ≡ false
    → before_within last areas ≡ (place + 1) + before_within last (drop (place + 1) areas)
behind_one last [] place within own = absurd (omega (arith, within))
behind_one last (area2 ∷ areas) zero within own = one_before last area2 areas (one_is_not last (area2 ∷ areas) zero within own)
behind_one last (area2 ∷ areas) (suc place) within own =
    let later : before_within last areas ≡ (place + 1) + before_within last (drop (place + 1) areas) =
    behind_one last areas place (omega (arith, within)) own in
    let next : suc place + 1 ≡ suc (place + 1) = omega arith in
    let left : before_within last (drop (suc place + 1) (area2 ∷ areas)) ≡ before_within last (drop (place + 1) areas) =
    ap (λ n. before_within last (drop n (area2 ∷ areas))) next in
    omega (arith, later, left, one_before last area2 areas (one_is_not last (area2 ∷ areas) (suc place) within own))

-- all are within where each is
all_within : (last : ℕ) (areas : List ℕ) → ((k : ℕ) → k < length areas → is_within last (get_or areas k 0) ≡ true) → list_all (is_within last) areas ≡ true
all_within last [] each = refl
all_within last (area2 ∷ areas) each =
    let own : is_within last area2 ≡ true = each 0 (omega arith) in
    rw own (all_within last areas (λ k below. each (suc k) (omega (arith, below))))

none_before : (last : ℕ) (areas : List ℕ) → list_all (is_within last) areas ≡ true → before_within last areas ≡ 0
unfolding before_within
none_before last [] all = refl
none_before last (area2 ∷ areas) all = rw all refl

-- so none stands before the first of those that are left
pub stays_to_the_end : (last : ℕ) (areas : List ℕ) (before place : ℕ) → length areas ≤ place
    → ((k : ℕ) → before ≤ k → k < place → is_within last (get_or areas k 0) ≡ true)
    → before_within last areas ≡ before + before_within last (drop before areas) → before ≡ before_within last areas
stays_to_the_end last areas before place ended stays stands =
    let left : before_within last (drop before areas) ≡ 0 =
    none_before last (drop before areas) (all_within last (drop before areas) (λ k below.
    rw (get_or-drop before areas k 0) (stays (before + k) (omega arith) (omega (arith, below, ended, length-drop before areas))))) in
    omega (arith, left, stands)

-- one more that is within
pub stays_on : (last : ℕ) (areas : List ℕ) (before place : ℕ) → ((k : ℕ) → before ≤ k → k < place → is_within last (get_or areas k 0) ≡ true)
    → is_within last (get_or areas place 0) ≡ true → (k : ℕ) → before ≤ k → k < place + 1 → is_within last (get_or areas k 0) ≡ true
stays_on last areas before place stays own k low high =
    below_more (λ k. before ≤ k → is_within last (get_or areas k 0) ≡ true) place (λ k high low. stays k low high) (λ low. own) k high low
