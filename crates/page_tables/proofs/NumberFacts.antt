-- Digits, one more written.
use Rattle.std.proofs.Common.{◌≡◌, ℕ, zero, suc, ◌-◌, ◌/◌, ◌%◌, ◌<◌, [], ◌++◌, true, false, refl, sym, arith}
use Rattle.std.proofs.lemmas.Bool.{true≢false}
use Rattle.page_text.specs.Figures.{digit}
use Rattle.page_tables.specs.Numbers.{has_zero, in_powers, padded, small, trimmed}

pub padded_none : (places number : ℕ) → places ≡ 0 → padded places number ≡ []
unfolding padded
padded_none zero number none = refl
padded_none (suc places) number none = absurd (omega (arith, none))

pub padded_more : (places number : ℕ) → 0 < places → padded places number ≡ padded (places - 1) (number / 10) ++ digit (number % 10)
unfolding padded
padded_more zero number some = absurd (omega (arith, some))
padded_more (suc places) number some =
    let left : suc places - 1 ≡ places = omega arith in
    rw left refl

-- decimals with a zero at their end, and with none
pub trimmed_more : (places number : ℕ) → has_zero places number ≡ true → trimmed places number ≡ trimmed (places - 1) (number / 10)
unfolding trimmed
trimmed_more zero number more = refl
trimmed_more (suc places) number more =
    let left : suc places - 1 ≡ places = omega arith in
    rw (more, left) refl

pub trimmed_all : (places number : ℕ) → has_zero places number ≡ false → trimmed places number ≡ padded places number
unfolding trimmed padded
trimmed_all zero number none = refl
trimmed_all (suc places) number none = rw none refl

pub small_more : (places number : ℕ) → has_zero places number ≡ true → small places number ≡ small (places - 1) (number / 10)
unfolding small
small_more zero number more = absurd (true≢false (sym more))
small_more (suc places) number more =
    let left : suc places - 1 ≡ places = omega arith in
    rw (more, left) refl

pub small_all : (places number : ℕ) → has_zero places number ≡ false → small places number ≡ in_powers places number
unfolding small
small_all zero number none = refl
small_all (suc places) number none = rw none refl
