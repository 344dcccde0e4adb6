-- Lines of a kind that stand together.
use Rattle.std.proofs.Common.{◌≡◌, ◌+◌, ℕ, true, false, List, [], ◌∷◌, ◌++◌, length, Option, Some, None, Ok, Err, refl, sym, ap, subst, ◌∙◌, inr, append_assoc}
use Rattle.std.proofs.lemmas.List.{append-nil, length-append}
use Rattle.page_report.specs.Reading.{Found, IsRefusal, many, put, stops}
use Rattle.page_report.specs.declared.reading.ReadFault.{ReadFault}
use Rattle.page_report.specs.declared.reading.ReadFault.TheVariants as faults

-- what is put before what was put
pub put-put : {A : Type 0} (xs ys : List A) (found : Found (List A)) → put xs (put ys found) ≡ put (xs ++ ys) found
put-put xs ys (Err left) = refl
put-put xs ys (Ok (others, behind)) = ap (λ all. Ok (all, behind)) (sym (append_assoc xs ys others))

many_stops : {A : Type 0} (kind : List ℕ) (read : ℕ → List ℕ → Option A) (before : ℕ) (lines : List (List ℕ)) → stops kind lines ≡ true
    → many kind read before lines ≡ Ok ([], lines)
unfolding many
many_stops kind read before [] stop = refl
many_stops kind read before (line ∷ behind) stop = rw stop refl

many_refused : {A : Type 0} (kind : List ℕ) (read : ℕ → List ℕ → Option A) (before : ℕ) (line : List ℕ) (behind : List (List ℕ)) → stops kind (line ∷ behind) ≡ false
    → read (before + 1) line ≡ None → many kind read before (line ∷ behind) ≡ Err (length (line ∷ behind))
unfolding many
many_refused kind read before line behind go none = rw (go, none) refl

many_more : {A : Type 0} (kind : List ℕ) (read : ℕ → List ℕ → Option A) (xs : List A) (line : List ℕ) (behind : List (List ℕ)) (own : A) → stops kind (line ∷ behind) ≡ false
    → read (length xs + 1) line ≡ Some own
    → put xs (many kind read (length xs) (line ∷ behind)) ≡ put (xs ++ own ∷ []) (many kind read (length (xs ++ own ∷ [])) behind)
unfolding many
many_more kind read xs line behind own go some =
    rw (go, some) (put-put xs (own ∷ []) (many kind read (length xs + 1) behind)
    ∙ ap (λ n. put (xs ++ own ∷ []) (many kind read n behind)) (sym (length-append xs (own ∷ []))))

-- what is found where some were read and so much is left: the first line left is refused, is one more, or is none of the kind
pub line_refused : {A : Type 0} (kind : List ℕ) (read : ℕ → List ℕ → Option A) (xs : List A) (lines : List (List ℕ)) (line : List ℕ) (behind : List (List ℕ)) (found : Found (List A)) (fault : ReadFault)
    → found ≡ put xs (many kind read (length xs) lines) → lines ≡ line ∷ behind → stops kind lines ≡ false → read (length xs + 1) line ≡ None
    → fault ≡ faults.Line (length lines) → IsRefusal found fault
line_refused kind read xs lines line behind found fault so_far first go none is =
    let go_on : stops kind (line ∷ behind) ≡ false = subst (λ l. stops kind l ≡ false) first go in
    inr (
      length lines,
      so_far ∙ ap (λ l. put xs (many kind read (length xs) l)) first
          ∙ ap (put xs) (many_refused kind read (length xs) line behind go_on none)
          ∙ ap (λ l. Err (length l)) (sym first),
      is,
    )

pub line_more : {A : Type 0} (kind : List ℕ) (read : ℕ → List ℕ → Option A) (xs ys : List A) (lines : List (List ℕ)) (line : List ℕ) (behind : List (List ℕ)) (found : Found (List A)) (own : A)
    → found ≡ put xs (many kind read (length xs) lines) → lines ≡ line ∷ behind → stops kind lines ≡ false → read (length xs + 1) line ≡ Some own
    → ys ≡ xs ++ own ∷ [] → found ≡ put ys (many kind read (length ys) behind)
line_more kind read xs ys lines line behind found own so_far first go some more =
    let go_on : stops kind (line ∷ behind) ≡ false = subst (λ l. stops kind l ≡ false) first go in
    so_far ∙ ap (λ l. put xs (many kind read (length xs) l)) first ∙ many_more kind read xs line behind own go_on some
    ∙ ap (λ l. put l (many kind read (length l) behind)) (sym more)

pub lines_end : {A : Type 0} (kind : List ℕ) (read : ℕ → List ℕ → Option A) (xs : List A) (lines : List (List ℕ)) (found : Found (List A))
    → found ≡ put xs (many kind read (length xs) lines) → stops kind lines ≡ true → found ≡ Ok (xs, lines)
lines_end kind read xs lines found so_far stop =
    so_far ∙ ap (put xs) (many_stops kind read (length xs) lines stop) ∙ ap (λ l. Ok (l, lines)) (append-nil xs)
