-- Words in a set, whose keys are those words.
use Rattle.std.proofs.Common.{◌≡◌, ◌++◌, ℕ, true, false, cond, not, ◌||◌, List, [], ◌∷◌, map, refl, sym, ap, ◌∙◌, ◌+◌}
use Rattle.std.proofs.lemmas.List.{map-append}
use Rattle.std.specs.List.{list_any, position_or_len}
use Rattle.std.specs.Str.{bytes_eq}
use Rattle.split_reading.specs.Words.{place_of, with_word}

module _ {K : Type 0} (f : K → List ℕ) (word : List ℕ) where
  -- where a word stands among keys
  pub place_in : (keys : List K) → position_or_len (λ k. bytes_eq word (f k)) keys ≡ place_of (map f keys) word
  place_in [] = refl
  place_in (k ∷ keys) = ap (λ n. cond (not (bytes_eq word (f k))) (1 + n) 0) (place_in keys)

  -- whether it is among them
  pub any_in : (keys : List K) → list_any (λ k. bytes_eq word (f k)) keys ≡ list_any (bytes_eq word) (map f keys)
  any_in [] = refl
  any_in (k ∷ keys) = ap (λ b. bytes_eq word (f k) || b) (any_in keys)

  -- words with one that is there, and with one that is not
  pub with_old : (keys : List K) → list_any (λ k. bytes_eq word (f k)) keys ≡ true → map f keys ≡ with_word (map f keys) word
  with_old keys there = rw (sym (any_in keys) ∙ there) refl

  pub with_new : (keys : List K) (key : K) → f key ≡ word → list_any (λ k. bytes_eq word (f k)) keys ≡ false → map f (keys ++ (key ∷ [])) ≡ with_word (map f keys) word
  with_new keys key is there = rw (sym (any_in keys) ∙ there) (map-append f keys (key ∷ []) ∙ rw is refl)
