-- What digits count by their weights, and that it fits 32 bits.
use Rattle.std.proofs.Common.{◌≡◌, ◌+◌, ◌-◌, ◌*◌, ◌<◌, ◌≤◌, ◌^◌, ◌∙◌, ℕ, true, List, [], ◌∷◌, length, nat_lt, refl, sym, zero, suc, Fits, w32, arith, tests, rules}
use lib.Lanes.{zip2, sum_l, fold_l, products, Each1, Each2, Steps}
use Rattle.std.proofs.lemmas.Simd.{sum_bound, adds_fit, sum_fits, sum-zip2, fold-sum, length-zip2}
use Rattle.std.proofs.lemmas.Bool.{and_parts}
use Rattle.std.proofs.lemmas.Nat.{mul-le}
use Rattle.range_numbers.specs.Groups.{are_small, weighted_sum, last_weights, weights_before}

-- where all numbers are those of digits, the first is at most 9
pub head_small : (x : ℕ) (xs : List ℕ) → are_small (x ∷ xs) ≡ true → x ≤ 9
head_small x xs e =
    let small : nat_lt x 10 ≡ true = (and_parts (nat_lt x 10) (are_small xs) e).0 in
    let less : x < 10 = search (rules, tests) in
    omega (arith, less)

-- and so are all after the first
pub tail_small : (x : ℕ) (xs : List ℕ) → are_small (x ∷ xs) ≡ true → are_small xs ≡ true
tail_small x xs e = (and_parts (nat_lt x 10) (are_small xs) e).1

-- a digit times its weight
product : (x p k : ℕ) → x ≤ 9 → p ≤ k → x * p ≤ 9 * k
product x p k small few = mul-le x p 9 k small few

products_small : (k : ℕ) (xs ps : List ℕ) → are_small xs ≡ true → Each1 (λ p. p ≤ k) ps → Each1 (λ m. m ≤ 9 * k) (products xs ps)
products_small k [] ps e h = tt
products_small k (x ∷ xs) [] e h = tt
products_small k (x ∷ xs) (p ∷ ps) e h = (product x p k (head_small x xs e) h.0, products_small k xs ps (tail_small x xs e) h.1)

-- digits times weights fit in 32 bits where nine times the bound of the weights does
pub products_fit : (k : ℕ) → 9 * k < 2 ^ 32 → (xs ps : List ℕ) → are_small xs ≡ true → Each1 (λ p. p ≤ k) ps → Each2 (λ x p. Fits w32 (x * p)) xs ps
products_fit k room [] ps e h = tt
products_fit k room (x ∷ xs) [] e h = tt
products_fit k room (x ∷ xs) (p ∷ ps) e h =
    (record { fits = omega (arith, product x p k (head_small x xs e) h.0, room) }, products_fit k room xs ps (tail_small x xs e) h.1)

-- the sum of four products
sum_small : (k : ℕ) (xs ps : List ℕ) → length xs ≡ 4 → length ps ≡ 4 → are_small xs ≡ true → Each1 (λ p. p ≤ k) ps → sum_l (products xs ps) ≤ 9 * k * 4
sum_small k xs ps four four_too e h =
    let many : length (products xs ps) ≡ 4 = length-zip2 (λ x p. x * p) xs ps (four ∙ sym four_too) ∙ four in
    rw many at (sum_bound (9 * k) (products xs ps) (products_small k xs ps e h))

-- weights of which none counts more than the greatest
abbrev pub AreBefore : List ℕ → Type 0
AreBefore ps = (length ps ≡ 4) × Each1 (λ p. p ≤ 10000000) ps

-- a one counts at most 1000 as each of the last four digits
pub last_weights_small : Each1 (λ p. p ≤ 1000) last_weights
last_weights_small = (omega arith, (omega arith, (omega arith, (omega arith, tt))))

both_sums : (xs ys ps : List ℕ) → length xs ≡ 4 → length ys ≡ 4 → are_small xs ≡ true → are_small ys ≡ true → AreBefore ps
    → sum_l (products xs ps) + sum_l (products ys last_weights) < 2 ^ 32
both_sums xs ys ps four four_too e f before =
    omega (arith, sum_small 10000000 xs ps four before.0 e before.1, sum_small 1000 ys last_weights four_too refl f last_weights_small)

-- the products of the first and of the last four digits, added pair by pair, fit in 32 bits
pub before_and_ending_fit : (xs ys ps : List ℕ) → length xs ≡ 4 → length ys ≡ 4 → are_small xs ≡ true → are_small ys ≡ true → AreBefore ps
    → Each2 (λ a b. Fits w32 (a + b)) (products xs ps) (products ys last_weights)
before_and_ending_fit xs ys ps four four_too e f before =
    adds_fit w32 (products xs ps) (products ys last_weights) (both_sums xs ys ps four four_too e f before)

abbrev pub all_products : List ℕ → List ℕ → List ℕ → List ℕ
all_products xs ys ps = zip2 (λ a b. a + b) (products xs ps) (products ys last_weights)

sum_of_all : (xs ys ps : List ℕ) → length xs ≡ 4 → length ys ≡ 4 → length ps ≡ 4
    → sum_l (all_products xs ys ps) ≡ sum_l (products xs ps) + sum_l (products ys last_weights)
sum_of_all xs ys ps four four_too few =
    sum-zip2 (products xs ps) (products ys last_weights)
    (length-zip2 (λ x p. x * p) xs ps (four ∙ sym few) ∙ four ∙ sym (length-zip2 (λ x p. x * p) ys last_weights four_too ∙ four_too))

-- each sum on the way to that of all products fits in 32 bits
pub sums_fit : (xs ys ps : List ℕ) → length xs ≡ 4 → length ys ≡ 4 → are_small xs ≡ true → are_small ys ≡ true → AreBefore ps
    → Steps (λ s x. Fits w32 (s + x)) (λ s x. s + x) 0 (all_products xs ys ps)
sums_fit xs ys ps four four_too e f before =
    sum_fits w32 0 (all_products xs ys ps) (omega (arith, sum_of_all xs ys ps four four_too before.0, both_sums xs ys ps four four_too e f before))

weighted_is_sum : (xs ps : List ℕ) → sum_l (products xs ps) ≡ weighted_sum ps xs
weighted_is_sum [] [] = refl
weighted_is_sum [] (p ∷ ps) = refl
weighted_is_sum (x ∷ xs) [] = refl
weighted_is_sum (x ∷ xs) (p ∷ ps) = let rest = weighted_is_sum xs ps in let turned : x * p ≡ p * x = omega arith in rw (turned, rest) refl

-- the sum of all products is that of the numbers, each times its weight
pub sum_is_weighted : (xs ys ps : List ℕ) → length xs ≡ 4 → length ys ≡ 4 → length ps ≡ 4
    → fold_l (λ s x. s + x) 0 (all_products xs ys ps) ≡ weighted_sum ps xs + weighted_sum last_weights ys
sum_is_weighted xs ys ps four four_too few =
    omega (arith, fold-sum 0 (all_products xs ys ps), sum_of_all xs ys ps four four_too few, weighted_is_sum xs ps, weighted_is_sum ys last_weights)

-- what holds for each number of digits from 4 to 8
by_length : (P : ℕ → Type 0) → P 4 → P 5 → P 6 → P 7 → P 8 → (n : ℕ) → 4 ≤ n → n ≤ 8 → P n
by_length P four five six seven eight n least most =
    let same : n - 4 + 4 ≡ n = omega (arith, least) in
    rw same at (from_four (n - 4) (omega (arith, most)))
  where
    from_four : (m : ℕ) → m ≤ 4 → P (m + 4)
    from_four zero h = four
    from_four (suc zero) h = five
    from_four (suc (suc zero)) h = six
    from_four (suc (suc (suc zero))) h = seven
    from_four (suc (suc (suc (suc zero)))) h = eight
    from_four (suc (suc (suc (suc (suc m))))) h = absurd (omega (arith, h))

-- of four to eight digits, the first four have four weights, of which none counts more than the greatest
pub weights_are_before : (n : ℕ) → 4 ≤ n → n ≤ 8 → AreBefore (weights_before n)
weights_are_before = by_length (λ n. AreBefore (weights_before n)) four five six seven eight
  where
    four : AreBefore (weights_before 4)
    four = (refl, (omega arith, (omega arith, (omega arith, (omega arith, tt)))))

    five : AreBefore (weights_before 5)
    five = (refl, (omega arith, (omega arith, (omega arith, (omega arith, tt)))))

    six : AreBefore (weights_before 6)
    six = (refl, (omega arith, (omega arith, (omega arith, (omega arith, tt)))))

    seven : AreBefore (weights_before 7)
    seven = (refl, (omega arith, (omega arith, (omega arith, (omega arith, tt)))))

    eight : AreBefore (weights_before 8)
    eight = (refl, (omega arith, (omega arith, (omega arith, (omega arith, tt)))))
