-- Numbered lines, made one at a time.
use Rattle.std.proofs.Common.{◌≡◌, ℕ, suc, ◌+◌, ◌<◌, List, [], ◌∷◌, ◌++◌, length, take, get_or, append_assoc, ap, sym, ◌∙◌, arith}
use Rattle.std.proofs.lemmas.List.{append-nil, length-take, take_more}
use Rattle.range_report.specs.Report.{lines_from}

-- a member more at the end
lines_push : {A : Type 0} (line : ℕ → A → List ℕ) (number : ℕ) (xs : List A) (x : A)
    → lines_from line number (xs ++ x ∷ []) ≡ lines_from line number xs ++ line (length xs + number) x
lines_push line number [] x =
    let none : 0 + number ≡ number = omega arith in
    append-nil (line number x) ∙ ap (λ n. line n x) (sym none)
lines_push line number (y ∷ ys) x =
    let later : length ys + (number + 1) ≡ suc (length ys) + number = omega arith in
    let rest = lines_push line (number + 1) ys x ∙ ap (λ n. lines_from line (number + 1) ys ++ line n x) later in
    ap (λ l. line number y ++ l) rest ∙ sym (append_assoc (line number y) (lines_from line (number + 1) ys) (line (suc (length ys) + number) x))

-- a line more behind the lines of the members so far, of which the first stands at this index
pub lines_more : {A : Type 0} (line : ℕ → A → List ℕ) (start before after : List ℕ) (xs : List A) (from i : ℕ) (x d : A) → i < length xs → x ≡ get_or xs i d
    → before ≡ start ++ lines_from line (from + 1) (take i xs) → after ≡ before ++ line (from + i + 1) x
    → after ≡ start ++ lines_from line (from + 1) (take (i + 1) xs)
lines_more line start before after xs from i x d within read so_far more =
    let count : length (take i xs) + (from + 1) ≡ from + i + 1 = omega (arith, length-take i xs) in
    let taken : take (i + 1) xs ≡ take i xs ++ x ∷ [] = take_more xs i d within ∙ ap (λ y. take i xs ++ y ∷ []) (sym read) in
    let lines = ap (λ l. lines_from line (from + 1) l) taken ∙ lines_push line (from + 1) (take i xs) x
    ∙ ap (λ n. lines_from line (from + 1) (take i xs) ++ line n x) count in
    more ∙ ap (λ l. l ++ line (from + i + 1) x) so_far ∙ append_assoc start (lines_from line (from + 1) (take i xs)) (line (from + i + 1) x)
    ∙ ap (λ l. start ++ l) (sym lines)
