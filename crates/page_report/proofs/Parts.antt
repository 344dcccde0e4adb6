-- The first part of a text, and the parts behind it.
use Rattle.std.proofs.Common.{◌≡◌, ◌<◌, ◌≤◌, ◌==◌, ◌+◌, ℕ, false, List, [], ◌∷◌, length, drop, nat_lt, Option, Some, None, arith, inl, inr}
use Rattle.std.proofs.lemmas.Bool.{cases_Bool}
use Rattle.std.proofs.lemmas.Bool.Decides.{nat_tests}
use Rattle.std.proofs.lemmas.List.Elements.{All-from_get_or}
use Rattle.std.proofs.lemmas.List.Splits.{length-slice_split, slice_split_first, slice_split_none}
use Rattle.std.proofs.lemmas.List.Sums.{fails_before_first}
use Rattle.std.specs.List.{position_or_len}
use Rattle.page_report.specs.Fields.{cut}
use Rattle.page_report.specs.Reading.{parts}

-- what a cut at an end of a line says of the parts
abbrev pub IsFirst : List ℕ → Option (List ℕ × List ℕ) → Type 0
IsFirst text None = parts text ≡ text ∷ []
IsFirst text (Some (line, behind)) = (parts text ≡ line ∷ parts behind) × (0 < length (parts behind))

pub some_part : (text : List ℕ) → 0 < length (parts text)
some_part text = omega (arith, length-slice_split (λ byte. byte == 10) text)

pub cut_parts : (text : List ℕ) → IsFirst text (cut 10 text)
unfolding cut
cut_parts text =
    let place = position_or_len (λ byte. byte == 10) text in
    elim (cases_Bool (nat_lt place (length text))) [
      | inl less ↦
          let within : place < length text = grind (arith, nat_tests, less) in
          rw less (slice_split_first (λ byte. byte == 10) text 0 within, some_part (drop (place + 1) text))
      | inr none ↦
          let past : length text ≤ place = grind (arith, nat_tests, none) in
          rw none (slice_split_none (λ byte. byte == 10) text
          (All-from_get_or (λ byte. (byte == 10) ≡ false) text 0 (λ i below. fails_before_first (λ byte. byte == 10) text i 0 (omega (arith, below, past)))))
    ]
