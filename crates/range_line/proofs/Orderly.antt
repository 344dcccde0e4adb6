-- What a file may send, one message at a time.
use Rattle.std.proofs.Common.{◌≡◌, ◌≢◌, ℕ, suc, ◌+◌, ◌≤◌, ◌⊎◌, Bool, true, false, true≢false, ◌||◌, ◌==◌, List, [], ◌∷◌, ◌++◌, length, inl, inr, ⊎_elim, sym}
use Rattle.std.proofs.Common.{refl, ap, ◌∙◌, subst, append_assoc, length-append, arith, eq-eqb, ne_eqb}
use Rattle.std.specs.Prelude.{cond}
use Rattle.std.proofs.lemmas.List.{append-nil}
use Rattle.std.proofs.lemmas.List.Elements.{filter-append}
use Rattle.range_plane.specs.Fix.{fix_limit}
use Rattle.range_line.specs.declared.message.Message.{Message}
use Rattle.range_line.specs.declared.message.Body.{Body}
use Rattle.range_line.specs.declared.message.Body.TheVariants.{Block, Mark}
use Rattle.range_line.specs.Messages.{of_file, all_fixes, fixes_in, is_mark, has_mark, IsFit, IsPlaced, IsOrderly}

-- the fixes of two lists of messages together are those of the first and then those of the second
pub joined_append : (xs ys : List Message) → all_fixes (xs ++ ys) ≡ all_fixes xs ++ all_fixes ys
joined_append [] ys = refl
joined_append (x ∷ xs) ys = ap (λ l. fixes_in x.body ++ l) (joined_append xs ys) ∙ sym (append_assoc (fixes_in x.body) (all_fixes xs) (all_fixes ys))

-- a file's messages in two lists together are those in the first and then those in the second
pub of_file_append : (xs ys : List Message) (file : ℕ) → of_file (xs ++ ys) file ≡ of_file xs file ++ of_file ys file
of_file_append xs ys file = filter-append (λ m. m.file == file) xs ys

-- the messages of the file of m, once m is added, and those of another
pub of_file_push : (xs : List Message) (m : Message) → of_file (xs ++ m ∷ []) m.file ≡ of_file xs m.file ++ m ∷ []
of_file_push xs m = of_file_append xs (m ∷ []) m.file ∙ ap (λ b. of_file xs m.file ++ cond b (m ∷ []) []) (eq-eqb m.file m.file refl)

-- a message of another file adds none to those of this file
pub of_file_push_other : (xs : List Message) (m : Message) (file : ℕ) → m.file ≢ file → of_file (xs ++ m ∷ []) file ≡ of_file xs file
of_file_push_other xs m file other = of_file_append xs (m ∷ []) file ∙ ap (λ b. of_file xs file ++ cond b (m ∷ []) []) (ne_eqb m.file file other)
    ∙ append-nil (of_file xs file)

-- a list with a first member is not empty
pub no_cons : {A : Type 0} (x : A) (xs : List A) → [] ≡ x ∷ xs → ⊥
no_cons x xs e = absurd (let n : 0 ≡ suc (length xs) = ap length e in omega arith)

abbrev head_of : {A : Type 0} → A → List A → A
head_of d [] = d
head_of d (x ∷ xs) = x

abbrev tail_of : {A : Type 0} → List A → List A
tail_of [] = []
tail_of (x ∷ xs) = xs

cons_head : {A : Type 0} (x y : A) (xs ys : List A) → x ∷ xs ≡ y ∷ ys → x ≡ y
cons_head x y xs ys e = ap (head_of x) e

cons_tail : {A : Type 0} (x y : A) (xs ys : List A) → x ∷ xs ≡ y ∷ ys → xs ≡ ys
cons_tail x y xs ys e = ap tail_of e

-- where a message stands in a list with one more at its end
snoc_cases : {A : Type 0} (xs : List A) (m : A) (before : List A) (x : A) (after : List A) → xs ++ m ∷ [] ≡ before ++ x ∷ after
    → ((before ≡ xs) × (x ≡ m) × (after ≡ [])) ⊎ ((rest : List A) × (xs ≡ before ++ x ∷ rest) × (after ≡ rest ++ m ∷ []))
snoc_cases [] m [] x after e = inl (refl, sym (cons_head _ _ _ _ e), sym (cons_tail _ _ _ _ e))
snoc_cases {A} [] m (b ∷ bs) x after e = absurd (let n : 0 ≡ length (bs ++ x ∷ after) = ap length (cons_tail _ _ _ _ e) in
    omega (arith, length-append bs (x ∷ after)))
snoc_cases (y ∷ ys) m [] x after e = inr (ys, ap (λ a. a ∷ ys) (cons_head _ _ _ _ e), sym (cons_tail _ _ _ _ e))
snoc_cases {A} (y ∷ ys) m (b ∷ bs) x after e = let h = cons_head _ _ _ _ e in
    ⊎_elim (λ (t : (bs ≡ ys) × (x ≡ m) × (after ≡ [])). inl ((λ i. sym h i ∷ t.0 i), t.1, t.2))
    (λ (t : (rest : List A) × (ys ≡ bs ++ x ∷ rest) × (after ≡ rest ++ m ∷ [])). inr (t.0, (λ i. h i ∷ t.1 i), t.2))
    (snoc_cases ys m bs x after (cons_tail _ _ _ _ e))

-- the empty list of messages is orderly
pub orderly_empty : IsOrderly []
orderly_empty = record {
  room = omega arith;
  each = λ before m after e. absurd
      (let n : 0 ≡ length (before ++ m ∷ after) = ap length e in omega (arith, length-append before (m ∷ after)));
}

fit_prefix : (body : Body) (after ys : List Message) → IsFit body (after ++ ys) → IsFit body after
fit_prefix (Block b) after ys fit = fit
fit_prefix Mark [] ys fit = refl
fit_prefix Mark (x ∷ xs) ys fit = absurd (no_cons x (xs ++ ys) (sym fit))

-- a beginning of orderly messages is orderly
pub orderly_prefix : (xs ys : List Message) → IsOrderly (xs ++ ys) → IsOrderly xs
orderly_prefix xs ys run = record {
  room = let r = run.room in omega (arith, ap length (joined_append xs ys), length-append (all_fixes xs) (all_fixes ys));
  each = λ before m after e. let s = run.each before m (after ++ ys) (ap (λ l. l ++ ys) e ∙ append_assoc before (m ∷ after) ys) in
      record { place = s.place; body = fit_prefix m.body after ys s.body };
}

abbrev HasMarkAt : List Message → Type 0
HasMarkAt xs = (before : List Message) × (m : Message) × (after : List Message) × (is_mark m.body ≡ true) × (xs ≡ before ++ m ∷ after)

mark_at : (x : Message) (xs : List Message) (b : Bool) → is_mark x.body ≡ b → (b || has_mark xs) ≡ true → (has_mark xs ≡ true → HasMarkAt xs)
    → HasMarkAt (x ∷ xs)
mark_at x xs true is e later = ([], x, xs, is, refl)
mark_at x xs false is e later = let s = later e in (x ∷ s.0, s.1, s.2, s.3, ap (λ l. x ∷ l) s.4)

pub mark_splits : (xs : List Message) → has_mark xs ≡ true → HasMarkAt xs
mark_splits [] e = absurd (true≢false (sym e))
mark_splits (x ∷ xs) e = mark_at x xs (is_mark x.body) refl e (λ h. mark_splits xs h)

or_assoc : (a b c : Bool) → (a || (b || c)) ≡ ((a || b) || c)
or_assoc true b c = refl
or_assoc false b c = refl

or_false : (a : Bool) → (a || false) ≡ a
or_false true = refl
or_false false = refl

or_right : (a : Bool) → (a || true) ≡ true
or_right true = refl
or_right false = refl

pub has_mark_append : (xs ys : List Message) → has_mark (xs ++ ys) ≡ (has_mark xs || has_mark ys)
has_mark_append [] ys = refl
has_mark_append (x ∷ xs) ys = ap (λ b. is_mark x.body || b) (has_mark_append xs ys) ∙ or_assoc (is_mark x.body) (has_mark xs) (has_mark ys)

-- with m added there is a mark exactly where there was one or m is one
pub has_mark_push : (xs : List Message) (m : Message) → has_mark (xs ++ m ∷ []) ≡ (has_mark xs || is_mark m.body)
has_mark_push xs m = has_mark_append xs (m ∷ []) ∙ ap (λ b. has_mark xs || b) (or_false (is_mark m.body))

fit_last : (body : Body) (after : List Message) → is_mark body ≡ true → IsFit body after → after ≡ []
fit_last (Block b) after is fit = absurd (true≢false (sym is))
fit_last Mark after is fit = fit

fit_more : (body : Body) (after more : List Message) → is_mark body ≡ false → IsFit body after → IsFit body more
fit_more (Block b) after more is fit = fit
fit_more Mark after more is fit = absurd (true≢false is)

nothing_after : (xs ys : List Message) → xs ++ ys ≡ [] → ys ≡ []
nothing_after [] ys e = e
nothing_after (x ∷ xs) ys e = absurd (no_cons x (xs ++ ys) (sym e))

-- a beginning that holds the mark is all
pub mark_is_last : (xs ys : List Message) → IsOrderly (xs ++ ys) → has_mark xs ≡ true → ys ≡ []
mark_is_last xs ys run marked = let s = mark_splits xs marked in
    nothing_after s.2 ys (fit_last s.1.body (s.2 ++ ys) s.3 (run.each s.0 s.1 (s.2 ++ ys) (ap (λ l. l ++ ys) s.4 ∙ append_assoc s.0 (s.1 ∷ s.2) ys)).body)

no_mark_in : (b : Bool) (before : List Message) (x : Message) (rest : List Message) → is_mark x.body ≡ b → has_mark (before ++ x ∷ rest) ≡ false → b ≡ false
no_mark_in false before x rest is none = refl
no_mark_in true before x rest is none =
    absurd (true≢false (sym (or_right (has_mark before)) ∙ ap (λ b. has_mark before || (b || has_mark rest)) (sym is) ∙ sym (has_mark_append before (x ∷ rest))
    ∙ none))

-- orderly messages without a mark stay orderly with one more that is fit to be last, has room, and whose place is the number of their fixes
pub orderly_push : (xs : List Message) (m : Message) → IsOrderly xs → has_mark xs ≡ false → m.place ≡ length (all_fixes xs) → IsFit m.body []
    → length (all_fixes xs) + length (fixes_in m.body) ≤ fix_limit → IsOrderly (xs ++ m ∷ [])
orderly_push xs m run open_ place fit room = record {
  room = omega (arith, room, ap length (joined_append xs (m ∷ [])), length-append (all_fixes xs) (all_fixes (m ∷ [])), ap length (append-nil (fixes_in m.body)));
  each = λ before x after e.
      ⊎_elim (λ (t : (before ≡ xs) × (x ≡ m) × (after ≡ [])). subst (λ (u : List Message × Message × List Message). IsPlaced u.0 u.1 u.2)
      (λ i. (sym t.0 i, sym t.1 i, sym t.2 i)) (record { place = place; body = fit }))
      (λ (t : (rest : List Message) × (xs ≡ before ++ x ∷ rest) × (after ≡ rest ++ m ∷ [])).
      let s = run.each before x t.0 t.1 in
      record { place = s.place; body = fit_more x.body t.0 after (no_mark_in (is_mark x.body) before x t.0 refl (ap has_mark (sym t.1) ∙ open_)) s.body })
      (snoc_cases xs m before x after e);
}
