-- Blanks at the end of a text.
use Rattle.std.proofs.Common.{◌≡◌, ℕ, true, false, List, [], ◌∷◌, ◌++◌, length, reverse, refl, sym, ap, ◌∙◌, arith}
use Rattle.std.proofs.lemmas.List.{reverse-append, reverse-reverse}
use Rattle.split_titles.specs.Plain.{behind_blanks, is_blank}

-- a blank at the end does not count
blank_at_the_end : (rest : List ℕ) (byte : ℕ) → is_blank byte ≡ true → behind_blanks (reverse (rest ++ byte ∷ [])) ≡ behind_blanks (reverse rest)
unfolding behind_blanks
blank_at_the_end rest byte blank = rw reverse-append (rw blank refl)

-- a text with another byte at its end keeps all
other_at_the_end : (rest : List ℕ) (byte : ℕ) → is_blank byte ≡ false → behind_blanks (reverse (rest ++ byte ∷ [])) ≡ reverse (rest ++ byte ∷ [])
unfolding behind_blanks
other_at_the_end rest byte other = rw reverse-append (rw other refl)

-- what is left of a text, behind which were blanks, still is when its own last blank is cut off
pub cut_at_the_end : (text rest others : List ℕ) (last : ℕ) → behind_blanks (reverse rest) ≡ behind_blanks (reverse text)
    → rest ≡ others ++ last ∷ [] → is_blank last ≡ true → behind_blanks (reverse others) ≡ behind_blanks (reverse text)
cut_at_the_end text rest others last left split blank =
    sym (blank_at_the_end others last blank) ∙ ap (λ xs. behind_blanks (reverse xs)) (sym split) ∙ left

-- and is all where its last byte is no blank
pub kept_to_the_end : (text rest others : List ℕ) (last : ℕ) → behind_blanks (reverse rest) ≡ behind_blanks (reverse text)
    → rest ≡ others ++ last ∷ [] → is_blank last ≡ false → rest ≡ reverse (behind_blanks (reverse text))
kept_to_the_end text rest others last left split other =
    split ∙ sym (reverse-reverse (others ++ last ∷ [])) ∙ ap reverse (sym (other_at_the_end others last other))
    ∙ ap (λ xs. reverse (behind_blanks (reverse xs))) (sym split) ∙ ap reverse left

-- or where nothing is left
pub none_to_the_end : (text rest : List ℕ) → behind_blanks (reverse rest) ≡ behind_blanks (reverse text) → length rest ≡ 0
    → rest ≡ reverse (behind_blanks (reverse text))
unfolding behind_blanks
none_to_the_end text [] left none = ap reverse left
none_to_the_end text (byte ∷ others) left none = absurd (omega (arith, none))
