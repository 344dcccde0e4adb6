-- Digits and words, one more written.
use Rattle.std.proofs.Common.{◌≡◌, ℕ, ◌+◌, ◌-◌, ◌<◌, ◌≤◌, List, [], ◌∷◌, ◌++◌, length, get_or, drop, map, refl, sym, ap, ◌∙◌, arith, append_assoc, append-nil, length-drop, Bor}
use Rattle.std.proofs.lemmas.List.{drop_all, drop_more, length-map}
use Rattle.page_text.specs.Figures.{between, comma_before, grouped_behind, listed}

-- a text with a part of what is left written comes to the same
one_more : (text all part left rest : List ℕ) → rest ≡ part ++ left → text ++ rest ≡ all → (text ++ part) ++ left ≡ all
one_more text all part left rest split whole = append_assoc text part left ∙ ap (λ l. text ++ l) (sym split) ∙ whole

-- the digits that are left, where the next is written
next_digit : (digits : List ℕ) (place : ℕ) → place < length digits
    → grouped_behind (drop place digits) ≡ (comma_before (length digits - place) ++ get_or digits place 0 ∷ []) ++ grouped_behind (drop (place + 1) digits)
unfolding grouped_behind
next_digit digits place within =
    let left : length digits - place ≡ length (drop place digits) = sym (length-drop place digits) in
    rw (left, drop_more digits place 0 within) refl

-- a text of which some digits are written comes to the same with the next written
pub digit_on : (text digits all : List ℕ) (place : ℕ) → place < length digits → text ++ grouped_behind (drop place digits) ≡ all
    → ((text ++ comma_before (length digits - place)) ++ get_or digits place 0 ∷ []) ++ grouped_behind (drop (place + 1) digits) ≡ all
digit_on text digits all place within whole =
    ap (λ l. l ++ grouped_behind (drop (place + 1) digits)) (append_assoc text (comma_before (length digits - place)) (get_or digits place 0 ∷ []))
    ∙ one_more text all (comma_before (length digits - place) ++ get_or digits place 0 ∷ []) (grouped_behind (drop (place + 1) digits))
    (grouped_behind (drop place digits)) (next_digit digits place within) whole

-- and is all where none is left
pub digits_end : (text digits all : List ℕ) (place : ℕ) → length digits ≤ place → text ++ grouped_behind (drop place digits) ≡ all → text ≡ all
unfolding grouped_behind
digits_end text digits all place ended whole = sym (append-nil text) ∙ ap (λ l. text ++ grouped_behind l) (sym (drop_all place digits ended)) ∙ whole

-- the texts of words
abbrev texts : List (Bor (List ℕ)) → List (List ℕ)
texts words = map (λ word. word.now) words

-- a word that is not there
abbrev none : Bor (List ℕ)
none = record { ref_ptr = (0, 0); now = [] }

-- the words that are left, where the next is written
next_word : (words : List (Bor (List ℕ))) (place : ℕ) → place < length words
    → listed (texts (drop place words)) ≡ ((get_or words place none).now ++ between (length words - place - 1)) ++ listed (texts (drop (place + 1) words))
unfolding listed
next_word words place within =
    let left : length words - place - 1 ≡ length (texts (drop (place + 1) words)) =
    omega (arith, length-map (drop (place + 1) words) (λ (word : Bor (List ℕ)). word.now), length-drop (place + 1) words) in
    rw (left, drop_more words place none within) refl

-- a text of which some words are written comes to the same with the next written
pub word_on : (text all : List ℕ) (words : List (Bor (List ℕ))) (place : ℕ) → place < length words → text ++ listed (texts (drop place words)) ≡ all
    → ((text ++ (get_or words place none).now) ++ between (length words - place - 1)) ++ listed (texts (drop (place + 1) words)) ≡ all
word_on text all words place within whole =
    ap (λ l. l ++ listed (texts (drop (place + 1) words))) (append_assoc text (get_or words place none).now (between (length words - place - 1)))
    ∙ one_more text all ((get_or words place none).now ++ between (length words - place - 1)) (listed (texts (drop (place + 1) words)))
    (listed (texts (drop place words))) (next_word words place within) whole

-- and is all where none is left
pub words_end : (text all : List ℕ) (words : List (Bor (List ℕ))) (place : ℕ) → length words ≤ place → text ++ listed (texts (drop place words)) ≡ all → text ≡ all
unfolding listed
words_end text all words place ended whole = sym (append-nil text) ∙ ap (λ l. text ++ listed (texts l)) (sym (drop_all place words ended)) ∙ whole
