-- The two lists that a list of pairs was made of, whatever a pair is.
use Rattle.std.proofs.Common.{◌≡◌, List, [], ◌∷◌, length, map, refl, ap, ◌∙◌}
use lib.Lanes.{zip2}
use Rattle.std.proofs.Math.Nat.{suc_inj}

module _ {X Y Z : Type 0} (pair : X → Y → Z) where
  -- the firsts of the pairs of two lists of one length are the first list
  pub firsts_of_zipped : (first : Z → X) → ((x : X) (y : Y) → first (pair x y) ≡ x) → (xs : List X) (ys : List Y) → length xs ≡ length ys
      → map first (zip2 pair xs ys) ≡ xs
  firsts_of_zipped first is [] [] h = refl
  firsts_of_zipped first is [] (y ∷ ys) h = refl
  firsts_of_zipped first is (x ∷ xs) [] h = cc
  firsts_of_zipped first is (x ∷ xs) (y ∷ ys) h =
      ap (λ z. z ∷ map first (zip2 pair xs ys)) (is x y) ∙ ap (λ l. x ∷ l) (firsts_of_zipped first is xs ys (suc_inj h))

  -- and the seconds are the second
  pub seconds_of_zipped : (second : Z → Y) → ((x : X) (y : Y) → second (pair x y) ≡ y) → (xs : List X) (ys : List Y) → length xs ≡ length ys
      → map second (zip2 pair xs ys) ≡ ys
  seconds_of_zipped second is [] [] h = refl
  seconds_of_zipped second is [] (y ∷ ys) h = cc
  seconds_of_zipped second is (x ∷ xs) [] h = cc
  seconds_of_zipped second is (x ∷ xs) (y ∷ ys) h =
      ap (λ z. z ∷ map second (zip2 pair xs ys)) (is x y) ∙ ap (λ l. y ∷ l) (seconds_of_zipped second is xs ys (suc_inj h))
