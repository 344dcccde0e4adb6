-- The least and the greatest over lanes.
use Rattle.std.proofs.Common.{◌≡◌, ℕ, ◌+◌, ◌<◌, ℤ, pos, List, [], ◌∷◌, ◌++◌, length, get_or, take, drop, fold, refl, ap, ◌∙◌, sym, arith, inl, inr, ◌⊎◌}
use lib.Lanes.{zip2, chunk}
use Rattle.std.proofs.Math.Nat.{suc_inj}
use Rattle.std.specs.Int.{int_min, int_max}
use Rattle.std.specs.List.{Contains}
use Rattle.std.proofs.lemmas.Int.{ints, clamps, fold-int_min_bounds, fold-int_min_reached, fold-int_max_bounds, fold-int_max_reached}
use Rattle.std.proofs.lemmas.List.Sums.{fold-append}
use Rattle.std.proofs.lemmas.List.{take-append-drop}
use Rattle.std.proofs.Math.Seq.{take-add}
use Rattle.range_lanes.specs.Extent.{IsGreatest, IsLeastCoordinate}

-- an operation that picks one of two numbers
pub record Choice (m : ℤ → ℤ → ℤ) : Type 0 where
  pub assoc : (a b c : ℤ) → m (m a b) c ≡ m a (m b c)
  pub comm : (a b : ℤ) → m a b ≡ m b a
  pub same : (a : ℤ) → m a a ≡ a

-- the smaller of two numbers is such a choice
pub min_choice : Choice int_min
min_choice = record {
  assoc = λ a b c. omega (arith, ints, clamps);
  comm = λ a b. omega (arith, ints, clamps);
  same = λ a. omega (arith, ints, clamps);
}

-- the greater of two numbers is such a choice
pub max_choice : Choice int_max
max_choice = record {
  assoc = λ a b c. omega (arith, ints, clamps);
  comm = λ a b. omega (arith, ints, clamps);
  same = λ a. omega (arith, ints, clamps);
}

module _ (m : ℤ → ℤ → ℤ) (o : Choice m) where
  swapped : (a b c d : ℤ) → m (m a b) (m c d) ≡ m (m a c) (m b d)
  swapped a b c d =
      o.assoc a b (m c d) ∙ ap (m a) (sym (o.assoc b c d) ∙ ap (λ x. m x d) (o.comm b c) ∙ o.assoc c b d) ∙ sym (o.assoc a c (m b d))

  fold_zip : (a b : ℤ) (xs ys : List ℤ) → length xs ≡ length ys → fold m (m a b) (zip2 m xs ys) ≡ m (fold m a xs) (fold m b ys)
  fold_zip a b [] [] h = refl
  fold_zip a b [] (y ∷ ys) h = cc
  fold_zip a b (x ∷ xs) [] h = cc
  fold_zip a b (x ∷ xs) (y ∷ ys) h =
      ap (λ c. fold m c (zip2 m xs ys)) (swapped a b x y) ∙ fold_zip (m a x) (m b y) xs ys (suc_inj h)

  fold_out : (c a : ℤ) (xs : List ℤ) → fold m (m c a) xs ≡ m c (fold m a xs)
  fold_out c a [] = refl
  fold_out c a (x ∷ xs) = ap (λ b. fold m b xs) (o.assoc c a x) ∙ fold_out c (m a x) xs

  fold_holds : (a : ℤ) (xs : List ℤ) → m (fold m a xs) a ≡ fold m a xs
  fold_holds a xs = o.comm (fold m a xs) a ∙ sym (fold_out a a xs) ∙ ap (λ b. fold m b xs) (o.same a)

  fold_joined : (a : ℤ) (xs ys : List ℤ) → m (fold m a xs) (fold m a ys) ≡ fold m a (xs ++ ys)
  fold_joined a xs ys =
      sym (fold_out (fold m a xs) a ys) ∙ ap (λ b. fold m b ys) (fold_holds a xs) ∙ sym (fold-append m a xs ys)

  -- one more group of eight
  pub choice_more : (a : ℤ) (xs lanes : List ℤ) (at : ℕ) → length lanes ≡ length (chunk at 8 xs) → fold m a lanes ≡ fold m a (take at xs)
      → fold m a (zip2 m lanes (chunk at 8 xs)) ≡ fold m a (take (at + 8) xs)
  choice_more a xs lanes at same e =
      ap (λ b. fold m b (zip2 m lanes (chunk at 8 xs))) (sym (o.same a))
      ∙ fold_zip a a lanes (chunk at 8 xs) same
      ∙ ap (λ b. m b (fold m a (chunk at 8 xs))) e
      ∙ fold_joined a (take at xs) (chunk at 8 xs)
      ∙ ap (fold m a) (sym (take-add at 8 xs))

  -- the lanes first, and then the rest
  pub choice_parts : (a p : ℤ) (xs lanes : List ℤ) (n : ℕ) → fold m a lanes ≡ fold m a (take n xs) → p ≡ fold m a lanes → fold m p (drop n xs) ≡ fold m a xs
  choice_parts a p xs lanes n e h =
      ap (λ b. fold m b (drop n xs)) (h ∙ e) ∙ sym (fold-append m a (take n xs) (drop n xs)) ∙ ap (fold m a) (take-append-drop n xs)

contained : (xs : List ℤ) (a r : ℤ) → 0 < length xs → a ≡ get_or xs 0 (pos 0) → (r ≡ a) ⊎ Contains xs r → Contains xs r
contained (x ∷ xs) a r some e (inl h) = (0, some, sym (h ∙ e))
contained (x ∷ xs) a r some e (inr h) = h
contained [] a r some e h = absurd (omega arith)

-- a fold from the first number on gives the least, or the greatest
pub least_from_fold : (xs : List ℤ) (a r : ℤ) → 0 < length xs → a ≡ get_or xs 0 (pos 0) → r ≡ fold int_min a xs → IsLeastCoordinate xs r
least_from_fold xs a r some e h = (contained xs a r some e (fold-int_min_reached a xs r h), (fold-int_min_bounds a xs r h).1)

-- a fold from the first number on that keeps the greater gives the greatest
pub greatest_from_fold : (xs : List ℤ) (a r : ℤ) → 0 < length xs → a ≡ get_or xs 0 (pos 0) → r ≡ fold int_max a xs → IsGreatest xs r
greatest_from_fold xs a r some e h = (contained xs a r some e (fold-int_max_reached a xs r h), (fold-int_max_bounds a xs r h).1)
