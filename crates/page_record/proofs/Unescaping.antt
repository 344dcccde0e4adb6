-- A text whose escapes are read, a byte on.
use Rattle.std.proofs.Common.{◌≡◌, ℕ, zero, suc, ◌+◌, ◌-◌, ◌<◌, ◌≤◌, List, [], ◌++◌, length, drop, Option, Some, None, option_map, refl, sym, ap, ◌∙◌, arith, append_assoc, append-nil}
use Rattle.std.proofs.lemmas.List.{drop_all, drop_more}
use Rattle.page_report.specs.Fields.{◌>>=◌}
use Rattle.page_record.specs.Unescaped.{behind_sign, sign_behind, sign_in, sign_text, unescaped_behind}
use Rattle.page_record.specs.declared.unescaped.Sign.{Sign}

-- what was read before more
abbrev pub before : List ℕ → Option (List ℕ) → Option (List ℕ)
before own more = option_map (λ text. own ++ text) more

before_sign : (own : List ℕ) (sign : Sign) (more : Option (List ℕ)) → before own (behind_sign sign more) ≡ before (own ++ sign_text sign) more
before_sign own sign None = refl
before_sign own sign (Some more) = ap Some (sym (append_assoc own (sign_text sign) more))

-- what is left of a text, where a sign starts at its next byte
next_read : (text : List ℕ) (place : ℕ) → place < length text
    → unescaped_behind 0 (drop place text) ≡ sign_in (drop place text) >>= (λ sign. behind_sign sign (unescaped_behind (sign_behind sign) (drop (place + 1) text)))
unfolding unescaped_behind
next_read text place within = rw (drop_more text place 0 within) refl

-- and where it stands for what an earlier one does
next_passed : (text : List ℕ) (place behind : ℕ) → place < length text → 0 < behind
    → unescaped_behind behind (drop place text) ≡ unescaped_behind (behind - 1) (drop (place + 1) text)
unfolding unescaped_behind
next_passed text place zero within some = absurd (omega (arith, some))
next_passed text place (suc behind) within some =
    let left : suc behind - 1 ≡ behind = omega arith in
    rw (drop_more text place 0 within, left) refl

none_left : (behind : ℕ) → unescaped_behind behind [] ≡ Some []
unfolding unescaped_behind
none_left zero = refl
none_left (suc behind) = refl

-- what is left where this sign starts, or none
sign_next : (text rest : List ℕ) (place behind : ℕ) (sign : Option Sign) → place < length text → behind ≤ 0 → rest ≡ drop place text → sign ≡ sign_in rest
    → unescaped_behind behind (drop place text) ≡ sign >>= (λ sign. behind_sign sign (unescaped_behind (sign_behind sign) (drop (place + 1) text)))
sign_next text rest place behind sign within none same is =
    let first : behind ≡ 0 = omega (arith, none) in
    ap (λ n. unescaped_behind n (drop place text)) first ∙ next_read text place within
    ∙ ap (λ own. own >>= (λ sign. behind_sign sign (unescaped_behind (sign_behind sign) (drop (place + 1) text)))) (sym (is ∙ ap sign_in same))

-- what was read of a text comes to the same with its next sign
pub read_on : (own text rest : List ℕ) (all : Option (List ℕ)) (place behind : ℕ) (sign : Sign) → place < length text → behind ≤ 0 → rest ≡ drop place text → Some sign ≡ sign_in rest
    → before own (unescaped_behind behind (drop place text)) ≡ all
    → before (own ++ sign_text sign) (unescaped_behind (sign_behind sign) (drop (place + 1) text)) ≡ all
read_on own text rest all place behind sign within none same is whole =
    sym (before_sign own sign (unescaped_behind (sign_behind sign) (drop (place + 1) text)))
    ∙ ap (before own) (sym (sign_next text rest place behind (Some sign) within none same is)) ∙ whole

-- or is none where no sign starts
pub none_read : (own text rest : List ℕ) (all : Option (List ℕ)) (place behind : ℕ) → place < length text → behind ≤ 0 → rest ≡ drop place text → None ≡ sign_in rest
    → before own (unescaped_behind behind (drop place text)) ≡ all → None ≡ all
none_read own text rest all place behind within none same is whole =
    ap (before own) (sym (sign_next text rest place behind None within none same is)) ∙ whole

-- or with its next byte passed over
pub passed_over : (own text : List ℕ) (all : Option (List ℕ)) (place behind : ℕ) → place < length text → 0 < behind
    → before own (unescaped_behind behind (drop place text)) ≡ all → before own (unescaped_behind (behind - 1) (drop (place + 1) text)) ≡ all
passed_over own text all place behind within some whole = ap (before own) (sym (next_passed text place behind within some)) ∙ whole

-- and is all where nothing is left
pub read_to_the_end : (own text : List ℕ) (all : Option (List ℕ)) (place behind : ℕ) → length text ≤ place
    → before own (unescaped_behind behind (drop place text)) ≡ all → Some own ≡ all
read_to_the_end own text all place behind ended whole =
    ap Some (sym (append-nil own)) ∙ ap (before own) (sym (ap (unescaped_behind behind) (drop_all place text ended) ∙ none_left behind)) ∙ whole
