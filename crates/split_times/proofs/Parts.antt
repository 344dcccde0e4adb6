-- Texts cut in two.
use Rattle.std.proofs.Common.{◌≡◌, ◌-◌, ◌≤◌, ◌∙◌, ℕ, nat_lt, Some, List, [], ◌∷◌, length, min, take, drop, false, ap, sym, refl, arith, rules, tests, length-drop, inl, inr}
use lib.IntN.{ℤ, pos, ◌+ℤ◌, ◌*ℤ◌}
use Rattle.split_times.specs.Fields.{clock_in}
use Rattle.split_times.specs.Iso.{offset_place, time_behind_day, time_behind_minute}
use Rattle.std.proofs.lemmas.Bool.{cases_lt}
use Rattle.std.proofs.lemmas.List.{take_all, drop_all}

-- what stands behind the first four, of which some may not be there
pub behind_four : (xs : List ℕ) (i : ℕ) → i ≡ min (length xs) 4 → take (length xs - i) (drop i xs) ≡ drop 4 xs
behind_four xs i e =
    take_all (length xs - i) (drop i xs) (omega (arith, length-drop i xs))
    ∙ elim (cases_lt (length xs) 4) [
      | inl few ↦ drop_all i xs (omega (arith, e, few)) ∙ sym (drop_all 4 xs (omega (arith, few)))
      | inr many ↦ let four : i ≡ 4 = omega (arith, e, many) in ap (λ (k : ℕ). drop k xs) four
    ]

-- what stands behind a day, cut into a clock, seconds and an offset
pub behind_day_is : (day minute : ℤ) (behind clock_text rest seconds offset : List ℕ) (clock place : ℕ)
    → 6 ≤ length behind → clock_text ≡ take 6 behind → rest ≡ drop 6 behind → Some clock ≡ clock_in clock_text → place ≡ offset_place rest
    → seconds ≡ take place rest → offset ≡ drop place rest → minute ≡ day *ℤ pos 86400 +ℤ pos clock
    → time_behind_day day behind ≡ time_behind_minute minute seconds offset
unfolding time_behind_day
behind_day_is day minute [] clock_text rest seconds offset clock place many e f g h i j k = absurd (omega (arith, many))
behind_day_is day minute (b ∷ bytes) clock_text rest seconds offset clock place many e f g h i j k =
    let test : nat_lt (length (b ∷ bytes)) 6 ≡ false = search (rules, tests) in
    let known : Some clock ≡ clock_in (take 6 (b ∷ bytes)) = rw e at g in
    rw (test, ← known, i, j, h, f, k) refl
