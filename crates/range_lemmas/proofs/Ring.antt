-- Equations between polynomials over the integers, decided by a normal form that computes: `ring`.
use Rattle.std.proofs.Common.{◌≡◌, refl, sym, ap, ◌∙◌, ℕ, zero, suc, ℤ, pos, negsuc, ◌+ℤ◌, ◌-ℤ◌, ◌*ℤ◌, neg_ℤ, arith, Bool, true, false, T, List, [], ◌∷◌}
use Rattle.std.proofs.lemmas.Int.{ints}
use lib.Dec.{eqb, ltb, eqb→eq}
use lib.IntN.{zero-*ℤ}
use Rattle.range_lemmas.proofs.Integers.{linear, product_assoc, product_comm, distribute}

-- an expression in variables that are named by number
pub data Expr : Type 0 where
  var : ℕ → Expr
  num : ℤ → Expr
  ◌⊕◌ ◌⊖◌ ◌⊗◌ : Expr → Expr → Expr

infixl 6 ◌⊕◌ ◌⊖◌
infixl 7 ◌⊗◌
abbrev pub value : List ℤ → ℕ → ℤ
value [] i = pos 0
value (x ∷ xs) zero = x
value (x ∷ xs) (suc i) = value xs i

abbrev pub eval : List ℤ → Expr → ℤ
eval xs (var i) = value xs i
eval xs (num z) = z
eval xs (a ⊕ b) = eval xs a +ℤ eval xs b
eval xs (a ⊖ b) = eval xs a -ℤ eval xs b
eval xs (a ⊗ b) = eval xs a *ℤ eval xs b

-- a product of variables, in rising order
pub data Monomial : Type 0 where
  unit : Monomial
  times : ℕ → Monomial → Monomial

-- a sum of terms
pub data Polynomial : Type 0 where
  none : Polynomial
  term : ℤ → Monomial → Polynomial → Polynomial

abbrev pub monomial_value : List ℤ → Monomial → ℤ
monomial_value xs unit = pos 1
monomial_value xs (times i m) = value xs i *ℤ monomial_value xs m

abbrev pub polynomial_value : List ℤ → Polynomial → ℤ
polynomial_value xs none = pos 0
polynomial_value xs (term c m p) = c *ℤ monomial_value xs m +ℤ polynomial_value xs p

abbrev pub put_before : Bool → ℕ → ℕ → Monomial → Monomial → Monomial
put_before true i j m rest = times i (times j m)
put_before false i j m rest = times j rest

abbrev pub with_variable : ℕ → Monomial → Monomial
with_variable i unit = times i unit
with_variable i (times j m) = put_before (ltb i j) i j m (with_variable i m)

abbrev pub monomial_product : Monomial → Monomial → Monomial
monomial_product unit m = m
monomial_product (times i k) m = with_variable i (monomial_product k m)

-- the same monomial
abbrev pub both : Bool → Bool → Bool
both true b = b
both false b = false

abbrev pub same : Monomial → Monomial → Bool
same unit unit = true
same unit (times i m) = false
same (times i m) unit = false
same (times i m) (times j k) = both (eqb i j) (same m k)

abbrev pub merge : Bool → ℤ → ℤ → Monomial → Polynomial → Polynomial → Polynomial
merge true c d k p rest = term (c +ℤ d) k p
merge false c d k p rest = term d k rest

abbrev pub with_term : ℤ → Monomial → Polynomial → Polynomial
with_term c m none = term c m none
with_term c m (term d k p) = merge (same m k) c d k p (with_term c m p)

abbrev pub polynomial_sum : Polynomial → Polynomial → Polynomial
polynomial_sum none q = q
polynomial_sum (term c m p) q = with_term c m (polynomial_sum p q)

-- c m p added to q
abbrev pub with_multiple : ℤ → Monomial → Polynomial → Polynomial → Polynomial
with_multiple c m none q = q
with_multiple c m (term d k p) q = with_term (c *ℤ d) (monomial_product m k) (with_multiple c m p q)

abbrev pub polynomial_product : Polynomial → Polynomial → Polynomial
polynomial_product none q = none
polynomial_product (term c m p) q = with_multiple c m q (polynomial_product p q)

abbrev pub normal : Expr → Polynomial
normal (var i) = term (pos 1) (times i unit) none
normal (num z) = term z unit none
normal (a ⊕ b) = polynomial_sum (normal a) (normal b)
normal (a ⊖ b) = with_multiple (negsuc 0) unit (normal b) (normal a)
normal (a ⊗ b) = polynomial_product (normal a) (normal b)

abbrev pub is_zero : ℤ → Bool
is_zero (pos zero) = true
is_zero (pos (suc n)) = false
is_zero (negsuc n) = false

abbrev pub vanishes : Polynomial → Bool
vanishes none = true
vanishes (term c m p) = both (is_zero c) (vanishes p)

-- ---- the normal form has the expression's value
monomial_assoc : (a b c : ℤ) → a *ℤ (b *ℤ c) ≡ b *ℤ (a *ℤ c)
monomial_assoc a b c = sym (product_assoc a b c) ∙ ap (λ (x : ℤ). x *ℤ c) (product_comm a b) ∙ product_assoc b a c

put_before_value : (xs : List ℤ) (t : Bool) (i j : ℕ) (m rest : Monomial) → monomial_value xs rest ≡ value xs i *ℤ monomial_value xs m
    → monomial_value xs (put_before t i j m rest) ≡ value xs i *ℤ (value xs j *ℤ monomial_value xs m)
put_before_value xs true i j m rest e = refl
put_before_value xs false i j m rest e = ap (λ (x : ℤ). value xs j *ℤ x) e ∙ monomial_assoc (value xs j) (value xs i) (monomial_value xs m)

with_variable_value : (xs : List ℤ) (i : ℕ) (m : Monomial) → monomial_value xs (with_variable i m) ≡ value xs i *ℤ monomial_value xs m
with_variable_value xs i unit = refl
with_variable_value xs i (times j m) = put_before_value xs (ltb i j) i j m (with_variable i m) (with_variable_value xs i m)

-- 1 times a number is that number
pub one_product : (z : ℤ) → pos 1 *ℤ z ≡ z
one_product (pos n) = omega (arith, ints)
one_product (negsuc n) = omega (arith, ints)

product_one : (z : ℤ) → z *ℤ pos 1 ≡ z
product_one z = product_comm z (pos 1) ∙ one_product z

monomial_product_value : (xs : List ℤ) (k m : Monomial) → monomial_value xs (monomial_product k m) ≡ monomial_value xs k *ℤ monomial_value xs m
monomial_product_value xs unit m = sym (one_product (monomial_value xs m))
monomial_product_value xs (times i k) m =
    with_variable_value xs i (monomial_product k m) ∙ ap (λ (x : ℤ). value xs i *ℤ x) (monomial_product_value xs k m)
    ∙ sym (product_assoc (value xs i) (monomial_value xs k) (monomial_value xs m))

both_left : (a b : Bool) → T (both a b) → T a
both_left true b t = tt
both_left false b t = absurd t

both_right : (a b : Bool) → T (both a b) → T b
both_right true b t = t
both_right false b t = absurd t

same_value : (xs : List ℤ) (m k : Monomial) → T (same m k) → monomial_value xs m ≡ monomial_value xs k
same_value xs unit unit t = refl
same_value xs unit (times i m) t = absurd t
same_value xs (times i m) unit t = absurd t
same_value xs (times i m) (times j k) t =
    ap (λ (x : ℕ). value xs x *ℤ monomial_value xs m) (eqb→eq i j (both_left (eqb i j) (same m k) t))
    ∙ ap (λ (x : ℤ). value xs j *ℤ x) (same_value xs m k (both_right (eqb i j) (same m k) t))

distribute_right : (a b c : ℤ) → (a +ℤ b) *ℤ c ≡ a *ℤ c +ℤ b *ℤ c
distribute_right a b c = omega (arith, linear, product_comm (a +ℤ b) c, distribute c a b, product_comm c a, product_comm c b)

merge_value : (xs : List ℤ) (t : Bool) (c d : ℤ) (m k : Monomial) (p rest : Polynomial) → (T t → monomial_value xs m ≡ monomial_value xs k)
    → polynomial_value xs rest ≡ c *ℤ monomial_value xs m +ℤ polynomial_value xs p
    → polynomial_value xs (merge t c d k p rest) ≡ c *ℤ monomial_value xs m +ℤ (d *ℤ monomial_value xs k +ℤ polynomial_value xs p)
merge_value xs true c d m k p rest s e =
    let f : c *ℤ monomial_value xs m ≡ c *ℤ monomial_value xs k = ap (λ (x : ℤ). c *ℤ x) (s tt) in
    omega (arith, linear, distribute_right c d (monomial_value xs k))
merge_value xs false c d m k p rest s e = omega (arith, linear)

with_term_value : (xs : List ℤ) (c : ℤ) (m : Monomial) (p : Polynomial)
    → polynomial_value xs (with_term c m p) ≡ c *ℤ monomial_value xs m +ℤ polynomial_value xs p
with_term_value xs c m none = refl
with_term_value xs c m (term d k p) = merge_value xs (same m k) c d m k p (with_term c m p) (same_value xs m k) (with_term_value xs c m p)

polynomial_sum_value : (xs : List ℤ) (p q : Polynomial) → polynomial_value xs (polynomial_sum p q) ≡ polynomial_value xs p +ℤ polynomial_value xs q
polynomial_sum_value xs none q = omega (arith, linear)
polynomial_sum_value xs (term c m p) q = omega (arith, linear, with_term_value xs c m (polynomial_sum p q), polynomial_sum_value xs p q)

interchange : (c d m k : ℤ) → (c *ℤ d) *ℤ (m *ℤ k) ≡ (c *ℤ m) *ℤ (d *ℤ k)
interchange c d m k = product_assoc c d (m *ℤ k) ∙ ap (λ (x : ℤ). c *ℤ x) (monomial_assoc d m k) ∙ sym (product_assoc c m (d *ℤ k))

with_multiple_value : (xs : List ℤ) (c : ℤ) (m : Monomial) (p q : Polynomial)
    → polynomial_value xs (with_multiple c m p q) ≡ (c *ℤ monomial_value xs m) *ℤ polynomial_value xs p +ℤ polynomial_value xs q
with_multiple_value xs c m none q = omega (arith, linear, product_comm (c *ℤ monomial_value xs m) (pos 0), zero-*ℤ (c *ℤ monomial_value xs m))
with_multiple_value xs c m (term d k p) q =
    let h = ap (λ (x : ℤ). (c *ℤ d) *ℤ x) (monomial_product_value xs m k) ∙ interchange c d (monomial_value xs m) (monomial_value xs k) in
    omega (
      arith,
      linear,
      h,
      with_term_value xs (c *ℤ d) (monomial_product m k) (with_multiple c m p q),
      with_multiple_value xs c m p q,
      distribute (c *ℤ monomial_value xs m) (d *ℤ monomial_value xs k) (polynomial_value xs p),
    )

polynomial_product_value : (xs : List ℤ) (p q : Polynomial) → polynomial_value xs (polynomial_product p q) ≡ polynomial_value xs p *ℤ polynomial_value xs q
polynomial_product_value xs none q = sym (zero-*ℤ (polynomial_value xs q))
polynomial_product_value xs (term c m p) q =
    omega (
      arith,
      linear,
      with_multiple_value xs c m q (polynomial_product p q),
      polynomial_product_value xs p q,
      distribute_right (c *ℤ monomial_value xs m) (polynomial_value xs p) (polynomial_value xs q),
    )

minus_one_product : (z : ℤ) → (negsuc 0 *ℤ pos 1) *ℤ z ≡ neg_ℤ z
minus_one_product (pos n) = omega (arith, ints)
minus_one_product (negsuc n) = omega (arith, ints)

normal_value : (xs : List ℤ) (a : Expr) → polynomial_value xs (normal a) ≡ eval xs a
normal_value xs (var i) = omega (arith, linear, one_product (value xs i *ℤ pos 1), product_one (value xs i))
normal_value xs (num z) = omega (arith, linear, product_one z)
normal_value xs (a ⊕ b) = omega (arith, linear, polynomial_sum_value xs (normal a) (normal b), normal_value xs a, normal_value xs b)
normal_value xs (a ⊖ b) = omega (
  arith,
  linear,
  with_multiple_value xs (negsuc 0) unit (normal b) (normal a),
  minus_one_product (polynomial_value xs (normal b)),
  normal_value xs a,
  normal_value xs b,
)
normal_value xs (a ⊗ b) = polynomial_product_value xs (normal a) (normal b) ∙ ap (λ (x : ℤ). x *ℤ polynomial_value xs (normal b)) (normal_value xs a)
    ∙ ap (λ (x : ℤ). eval xs a *ℤ x) (normal_value xs b)

is_zero_so : (z : ℤ) → T (is_zero z) → z ≡ pos 0
is_zero_so (pos zero) t = refl
is_zero_so (pos (suc n)) t = absurd t
is_zero_so (negsuc n) t = absurd t

vanishes_value : (xs : List ℤ) (p : Polynomial) → T (vanishes p) → polynomial_value xs p ≡ pos 0
vanishes_value xs none t = refl
vanishes_value xs (term c m p) t =
    omega (
      arith,
      linear,
      ap (λ (x : ℤ). x *ℤ monomial_value xs m) (is_zero_so c (both_left (is_zero c) (vanishes p) t)),
      zero-*ℤ (monomial_value xs m),
      vanishes_value xs p (both_right (is_zero c) (vanishes p) t),
    )

-- two expressions whose difference has a normal form without terms are equal at every list of values; `tt` is the proof
pub ring : (xs : List ℤ) (a b : Expr) → T (vanishes (normal (a ⊖ b))) → eval xs a ≡ eval xs b
ring xs a b t = omega (arith, linear, normal_value xs (a ⊖ b), vanishes_value xs (normal (a ⊖ b)) t)
