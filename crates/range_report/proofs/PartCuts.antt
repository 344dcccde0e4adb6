-- Numbered lines that are cut into parts, and parts that are listed one at a time.
use Rattle.std.proofs.Common.{◌≡◌, ℕ, zero, suc, ◌+◌, ◌-◌, ◌*◌, List, [], ◌∷◌, ◌++◌, drop, length, min, take, append_assoc, ap, sym, refl, ◌∙◌, arith}
use Rattle.std.proofs.lemmas.List.{append-nil, drop_min, take_all, take_min, take_rest}
use Rattle.std.proofs.lemmas.Grind.{flat_map-append}
use Rattle.std.specs.List.{flat_map, range_with_len}
use Rattle.range_report.specs.Parts.{numbered_lines_from, part_count, part_lines}
use Rattle.range_report.specs.Report.{lines_from, numbered_lines}

-- the text of one number more
texts_more : {A : Type 0} (text : ℕ → List A) (a n j : ℕ) → a + n ≡ j → flat_map text (range_with_len a (suc n)) ≡ flat_map text (range_with_len a n) ++ text j
texts_more text a zero j e =
    let none : a ≡ j = omega arith in
    append-nil (text a) ∙ ap text none
texts_more text a (suc n) j e =
    let rest = texts_more text (a + 1) n j (omega arith) in
    ap (λ l. text a ++ l) rest ∙ sym (append_assoc (text a) (flat_map text (range_with_len (a + 1) n)) (text j))

-- a part more, which has the text of its number
pub one_part_more : {P A : Type 0} (text : P → List A) (numbered_text : ℕ → List A) (start old new : List P) (part : P) (i : ℕ) → new ≡ old ++ part ∷ []
    → text part ≡ numbered_text i → flat_map text old ≡ flat_map text start ++ flat_map numbered_text (range_with_len 0 i)
    → flat_map text new ≡ flat_map text start ++ flat_map numbered_text (range_with_len 0 (i + 1))
one_part_more text numbered_text start old new part i pushed same so_far =
    let count : suc i ≡ i + 1 = omega arith in
    let whole = sym (texts_more numbered_text 0 i i (omega arith)) ∙ ap (λ n. flat_map numbered_text (range_with_len 0 n)) count in
    ap (flat_map text) pushed ∙ flat_map-append text old (part ∷ []) ∙ ap (λ l. flat_map text old ++ l) (append-nil (text part) ∙ same)
    ∙ ap (λ l. l ++ numbered_text i) so_far
    ∙ append_assoc (flat_map text start) (flat_map numbered_text (range_with_len 0 i)) (numbered_text i) ∙ ap (λ l. flat_map text start ++ l) whole

last_text : {P A : Type 0} (text : P → List A) (old new : List P) (part : P) → new ≡ old ++ part ∷ [] → flat_map text new ≡ flat_map text old ++ text part
last_text text old new part pushed = ap (flat_map text) pushed ∙ flat_map-append text old (part ∷ [])
    ∙ ap (λ l. flat_map text old ++ l) (append-nil (text part))

-- a part, parts of two kinds, and a part
pub four_texts : {P A : Type 0} (text : P → List A) (p0 p1 p2 p3 p4 : List P) (first last : P) (b b′ c c′ : List A) → p1 ≡ p0 ++ first ∷ []
    → flat_map text p2 ≡ flat_map text p1 ++ b′ → b′ ≡ b
    → flat_map text p3 ≡ flat_map text p2 ++ c′ → c′ ≡ c → p4 ≡ p3 ++ last ∷ []
    → flat_map text p4 ≡ flat_map text p0 ++ (text first ++ b ++ c ++ text last)
four_texts text p0 p1 p2 p3 p4 first last b b′ c c′ one two of_two three of_three four =
    rw (last_text text p3 p4 last four, three, of_three, two, of_two, last_text text p0 p1 first one) (simp append_assoc)

-- the members from an index on, part_lines of them at most, by indices that lie within the list
pub members_from : {A : Type 0} (xs : List A) (from a b : ℕ) → a ≡ min from (length xs) → b ≡ min part_lines (length (take (length xs - a) (drop a xs)))
    → take b (take (length xs - a) (drop a xs)) ≡ take part_lines (drop from xs)
members_from xs from a b e f =
    let rest : take (length xs - a) (drop a xs) ≡ drop from xs = take_rest xs a ∙ ap (λ k. drop k xs) e ∙ drop_min from xs in
    ap (λ k. take k (take (length xs - a) (drop a xs))) f ∙ take_min part_lines (take (length xs - a) (drop a xs)) ∙ ap (take part_lines) rest

module _ {A : Type 0} (line : ℕ → A → List ℕ) where
  -- the lines of the first m members, and of s after them
  lines_cut : (number m s : ℕ) (xs : List A) → lines_from line number (take m xs) ++ lines_from line (m + number) (take s (drop m xs)) ≡ lines_from line number
      (take (m + s) xs)
  lines_cut number zero s xs =
      let none : 0 + number ≡ number = omega arith in
      let all : s ≡ 0 + s = omega arith in
      ap (λ n. lines_from line n (take s xs)) none ∙ ap (λ k. lines_from line number (take k xs)) all
  lines_cut number (suc m) s [] =
      ap (λ l. lines_from line (suc m + number) l) (take_all s [] (omega arith))
      ∙ sym (ap (λ l. lines_from line number l) (take_all (suc m + s) [] (omega arith)))
  lines_cut number (suc m) s (x ∷ xs) =
      let later : suc m + number ≡ m + (number + 1) = omega arith in
      let sum : suc (m + s) ≡ suc m + s = omega arith in
      append_assoc (line number x) (lines_from line (number + 1) (take m xs)) (lines_from line (suc m + number) (take s (drop m xs)))
      ∙ ap (λ n. line number x ++ (lines_from line (number + 1) (take m xs) ++ lines_from line n (take s (drop m xs)))) later
      ∙ ap (λ l. line number x ++ l) (lines_cut (number + 1) m s xs) ∙ ap (λ k. lines_from line number (take k (x ∷ xs))) sum

  -- the first n parts
  parts_so_far : (n : ℕ) (xs : List A) → flat_map (λ i. numbered_lines_from line (i * part_lines) xs) (range_with_len 0 n) ≡ numbered_lines line (take (n * part_lines) xs)
  parts_so_far zero xs = refl
  parts_so_far (suc n) xs =
      let sum : n * part_lines + part_lines ≡ suc n * part_lines = omega arith in
      texts_more (λ i. numbered_lines_from line (i * part_lines) xs) 0 n n (omega arith)
      ∙ ap (λ l. l ++ numbered_lines_from line (n * part_lines) xs) (parts_so_far n xs) ∙ lines_cut 1 (n * part_lines) part_lines xs
      ∙ ap (λ k. numbered_lines line (take k xs)) sum

  -- all parts
  pub numbered_cut : (xs : List A) → flat_map (λ i. numbered_lines_from line (i * part_lines) xs) (range_with_len 0 (part_count (length xs))) ≡ numbered_lines line xs
  numbered_cut xs = parts_so_far (part_count (length xs)) xs ∙ ap (numbered_lines line) (take_all (part_count (length xs) * part_lines) xs (omega arith))
