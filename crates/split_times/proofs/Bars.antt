-- Forms cut at the first bar.
use Rattle.std.proofs.Common.{◌≡◌, ◌+◌, ◌-◌, ◌<◌, ◌≤◌, ℕ, Bool, true, false, not, List, [], ◌∷◌, length, take, drop, get_or, refl, arith, length-drop}
use Rattle.std.specs.List.{position_or_len}
use Rattle.std.proofs.lemmas.List.{take_all}
use Rattle.std.proofs.lemmas.List.Splits.{slice_split_first, slice_split_none}
use Rattle.std.proofs.lemmas.List.Sums.{prefix_len_passes}
use Rattle.split_times.specs.Several.{forms_of, is_bar}

is_false : (b : Bool) → not b ≡ true → b ≡ false
is_false true e = cc e
is_false false e = refl

-- without a bar a text is one form
pub one_form : (text : List ℕ) (place : ℕ) → place ≡ position_or_len is_bar text → length text ≤ place → forms_of text ≡ text ∷ []
one_form text place e all = slice_split_none is_bar text
    (λ k d less. is_false (is_bar (get_or text k d)) (prefix_len_passes (λ b. not (is_bar b)) text k d (omega (arith, e, all, less))))

-- behind a bar others follow
pub more_forms : (text : List ℕ) (place : ℕ) → place ≡ position_or_len is_bar text → place < length text
    → forms_of text ≡ take place text ∷ forms_of (take (length text - (place + 1)) (drop (place + 1) text))
more_forms text place e less =
    let within : position_or_len is_bar text < length text = omega (arith, e, less) in
    rw (take_all (length text - (place + 1)) (drop (place + 1) text) (omega (arith, length-drop (place + 1) text)), e) (slice_split_first is_bar text 0 within)
