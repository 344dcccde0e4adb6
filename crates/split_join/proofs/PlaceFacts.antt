-- Places of records, table for table.
use Rattle.std.proofs.Common.{◌≡◌, ◌∙◌, ◌+◌, ◌-◌, ◌≤◌, ◌<◌, ℕ, List, drop, length, get_or, nat_le, true, false, ap, arith, add-zero}
use Rattle.std.proofs.lemmas.Bool.Decides.{nat_tests}
use Rattle.std.proofs.lemmas.List.{drop_all, drop_more}
use Rattle.split_join.specs.Place.{place_in}

-- the same place, where so many more tables stand before the first
abbrev pub behind : ℕ → ℕ × ℕ → ℕ × ℕ
behind more place = (more + place.0, place.1)

within : (number count : ℕ) → number ≤ count → nat_le number count ≡ true
within number count few = grind (arith, nat_tests, few)

beyond : (number count : ℕ) → count < number → nat_le number count ≡ false
beyond number count many = grind (arith, nat_tests, many)

-- a record that the next table has
pub here : (counts : List ℕ) (table number : ℕ) → table < length counts → number ≤ get_or counts table 0 → behind table (place_in (drop table counts) number) ≡ (table, number)
unfolding place_in
here counts table number there few = rw (drop_more counts table 0 there, within number _ few) (ap (λ (n : ℕ). (n, number)) (add-zero table))

-- one that it has not
pub onward : (counts : List ℕ) (table number : ℕ) → table < length counts → get_or counts table 0 < number
    → behind table (place_in (drop table counts) number) ≡ behind (table + 1) (place_in (drop (table + 1) counts) (number - get_or counts table 0))
unfolding place_in
onward counts table number there many =
    let rest = place_in (drop (table + 1) counts) (number - get_or counts table 0) in
    rw (drop_more counts table 0 there, beyond number _ many) (ap (λ (n : ℕ). (n, rest.1)) (omega arith))

-- one that no table has
pub nowhere : (counts : List ℕ) (table number : ℕ) → table ≡ length counts → behind table (place_in (drop table counts) number) ≡ (length counts, number)
unfolding place_in
nowhere counts table number end = rw (drop_all table counts (omega (arith, end))) (ap (λ (n : ℕ). (n, number)) (add-zero table ∙ end))
