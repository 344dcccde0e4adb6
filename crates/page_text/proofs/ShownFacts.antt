-- A text as it is shown, a byte on.
use Rattle.std.proofs.Common.{◌≡◌, ℕ, zero, suc, ◌+◌, ◌-◌, ◌<◌, ◌≤◌, List, [], ◌++◌, length, drop, refl, sym, ap, ◌∙◌, arith, append_assoc, append-nil}
use Rattle.std.proofs.lemmas.List.{drop_all, drop_more}
use Rattle.page_text.specs.Shown.{bytes_behind, escaped_behind, sign_text}

-- what is left of a text, where its next byte is written
next_written : (line : List ℕ) (place : ℕ) → place < length line
    → escaped_behind 0 (drop place line) ≡ sign_text (drop place line) ++ escaped_behind (bytes_behind (drop place line)) (drop (place + 1) line)
unfolding escaped_behind
next_written line place within = rw (drop_more line place 0 within) refl

-- and where it is shown with one before it
next_passed : (line : List ℕ) (place behind : ℕ) → place < length line → 0 < behind
    → escaped_behind behind (drop place line) ≡ escaped_behind (behind - 1) (drop (place + 1) line)
unfolding escaped_behind
next_passed line place zero within some = absurd (omega (arith, some))
next_passed line place (suc behind) within some =
    let left : suc behind - 1 ≡ behind = omega arith in
    rw (drop_more line place 0 within, left) refl

none_left : (behind : ℕ) → escaped_behind behind [] ≡ []
unfolding escaped_behind
none_left zero = refl
none_left (suc behind) = refl

one_more : (text all sign left rest : List ℕ) → rest ≡ sign ++ left → text ++ rest ≡ all → (text ++ sign) ++ left ≡ all
one_more text all sign left rest split whole = append_assoc text sign left ∙ ap (λ l. text ++ l) (sym split) ∙ whole

-- a text of which a part is written comes to the same with its next byte written
pub written_on : (text line all rest : List ℕ) (place behind : ℕ) → place < length line → behind ≤ 0 → rest ≡ drop place line
    → text ++ escaped_behind behind (drop place line) ≡ all
    → (text ++ sign_text rest) ++ escaped_behind (bytes_behind rest) (drop (place + 1) line) ≡ all
written_on text line all rest place behind within none same whole =
    let first : behind ≡ 0 = omega (arith, none) in
    let split : escaped_behind behind (drop place line) ≡ sign_text rest ++ escaped_behind (bytes_behind rest) (drop (place + 1) line) =
    ap (λ n. escaped_behind n (drop place line)) first ∙ next_written line place within
    ∙ ap (λ l. sign_text l ++ escaped_behind (bytes_behind l) (drop (place + 1) line)) (sym same) in
    one_more text all (sign_text rest) (escaped_behind (bytes_behind rest) (drop (place + 1) line)) (escaped_behind behind (drop place line)) split whole

-- or passed over
pub passed_on : (text line all : List ℕ) (place behind : ℕ) → place < length line → 0 < behind
    → text ++ escaped_behind behind (drop place line) ≡ all → text ++ escaped_behind (behind - 1) (drop (place + 1) line) ≡ all
passed_on text line all place behind within some whole = ap (λ l. text ++ l) (sym (next_passed line place behind within some)) ∙ whole

-- and is all where nothing is left
pub written_to_the_end : (text line all : List ℕ) (place behind : ℕ) → length line ≤ place
    → text ++ escaped_behind behind (drop place line) ≡ all → text ≡ all
written_to_the_end text line all place behind ended whole =
    sym (append-nil text) ∙ ap (λ l. text ++ l) (sym (ap (escaped_behind behind) (drop_all place line ended) ∙ none_left behind)) ∙ whole
