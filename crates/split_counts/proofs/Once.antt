-- Each record is in a track or in one count.
use Rattle.std.proofs.Common.{◌≡◌, ◌∙◌, ◌≢◌, ℕ, zero, suc, ◌+◌, ◌<◌, ◌≤◌, ◌==◌, Bool, cond, List, [], ◌∷◌, All, length, refl, sym, ap, arith, inl, inr}
use Rattle.std.proofs.lemmas.Bool.{cases_Bool, eqb-true, ne_eqb}
use Rattle.std.proofs.lemmas.List.Elements.{All-head, All-tail}
use Rattle.std.proofs.lemmas.List.Sums.{sum-map, sum_by-cons}
use Rattle.std.specs.List.{count_by, range_with_len, sum, sum_by}
use Rattle.split_tracks.specs.declared.fate.Fate.{Fate}
use Rattle.split_tracks.specs.declared.fate.Fate.TheVariants.{InTrack, LeftOut}
use Rattle.split_counts.specs.Counts.{is_in_slot, left_counts, slot_of}
use Rattle.split_counts.specs.Laws.{IsLeftOfAnimals, is_in_track}
use Rattle.split_counts.proofs.Slots.{slot_within, slots}

-- 1 at one number, 0 at all others
abbrev one_at : ℕ → ℕ → ℕ
one_at own slot = cond (own == slot) 1 0

none_before : (own from many : ℕ) → own < from → sum_by (one_at own) (range_with_len from many) ≡ 0
none_before own from zero before = refl
none_before own from (suc many) before =
    let first = sum_by-cons (one_at own) from (range_with_len (from + 1) many) in
    let differ : one_at own from ≡ 0 = ap (λ b. cond b 1 0) (ne_eqb own from (λ same. omega (arith, before, same))) in
    let rest = none_before own (from + 1) many (omega (arith, before)) in
    omega (arith, first, differ, rest)

one_within : (own from many : ℕ) → from ≤ own → own < from + many → sum_by (one_at own) (range_with_len from many) ≡ 1
one_within own from zero least most = absurd (omega (arith, least, most))
one_within own from (suc many) least most =
    let first = sum_by-cons (one_at own) from (range_with_len (from + 1) many) in
    elim (cases_Bool (own == from)) [
      | inl same ↦
          let is = eqb-true own from same in
          let here : one_at own from ≡ 1 = ap (λ b. cond b 1 0) same in
          omega (arith, first, here, none_before own (from + 1) many (omega (arith, is)))
      | inr other ↦
          let differ : own ≢ from = λ is. grind (arith, other, is) in
          let not_here : one_at own from ≡ 0 = ap (λ b. cond b 1 0) other in
          omega (arith, first, not_here, one_within own (from + 1) many (omega (arith, least, differ)) (omega (arith, most)))
    ]

no_sum : (xs : List ℕ) → sum_by (λ _. 0) xs ≡ 0
no_sum [] = refl
no_sum (x ∷ xs) = omega (arith, sum_by-cons (λ _. 0) x xs, no_sum xs)

-- numbers that are the sums of two
sum_of_both : (a b both : ℕ → ℕ) → ((x : ℕ) → both x ≡ a x + b x) → (xs : List ℕ) → sum_by both xs ≡ sum_by a xs + sum_by b xs
sum_of_both a b both is [] = refl
sum_of_both a b both is (x ∷ xs) =
    let rest = sum_of_both a b both is xs in
    omega (arith, sum_by-cons both x xs, sum_by-cons a x xs, sum_by-cons b x xs, is x, rest)

abbrev in_slot : ℕ → List Fate → ℕ → ℕ
in_slot animals fates slot = count_by (is_in_slot animals slot) fates

-- the numbers of the slots
abbrev all_slots : ℕ → List ℕ
all_slots animals = range_with_len 0 (slots animals)

count_cons : (p : Fate → Bool) (fate : Fate) (fates : List Fate) → count_by p (fate ∷ fates) ≡ cond (p fate) 1 0 + count_by p fates
count_cons p fate fates = sum_by-cons (λ x. cond (p x) 1 0) fate fates

counted_once : (animals : ℕ) (fates : List Fate) → All (IsLeftOfAnimals animals) fates → sum_by (in_slot animals fates) (all_slots animals) + count_by is_in_track fates ≡ length fates
counted_once animals [] all = ap (λ n. n + 0) (no_sum (all_slots animals))
counted_once animals (InTrack animal entry ∷ fates) all =
    let fate = InTrack animal entry in
    let rest = counted_once animals fates (All-tail (IsLeftOfAnimals animals) fate fates all) in
    let slots_same = sum_of_both (λ _. 0) (in_slot animals fates) (in_slot animals (fate ∷ fates)) (λ slot. count_cons (is_in_slot animals slot) fate fates) (all_slots animals) in
    omega (arith, rest, slots_same, no_sum (all_slots animals), count_cons is_in_track fate fates)
counted_once animals (LeftOut animal why ∷ fates) all =
    let fate = LeftOut animal why in
    let own = slot_of animals animal why in
    let one = All-head (IsLeftOfAnimals animals) fate fates all in
    let rest = counted_once animals fates (All-tail (IsLeftOfAnimals animals) fate fates all) in
    let slots_more = sum_of_both (one_at own) (in_slot animals fates) (in_slot animals (fate ∷ fates))
    (λ slot. count_cons (is_in_slot animals slot) fate fates ∙ rw one refl) (all_slots animals) in
    omega (arith, rest, slots_more, one_within own 0 (slots animals) (omega arith) (omega (arith, slot_within animals animal why (sym one))), count_cons is_in_track fate fates)

pub sum_counted_once : (animals : ℕ) (fates : List Fate) → All (IsLeftOfAnimals animals) fates → sum (left_counts animals fates) + count_by is_in_track fates ≡ length fates
sum_counted_once animals fates all = ap (λ n. n + count_by is_in_track fates) (sum-map (in_slot animals fates) (all_slots animals)) ∙ counted_once animals fates all
