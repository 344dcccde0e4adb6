-- Membership of a list by its head and its rest.
use Rattle.std.proofs.Common.{◌≡◌, refl, sym, subst, ℕ, zero, suc, ◌<◌, List, [], ◌∷◌, length, get_or, Contains, ◌⊎◌, inl, inr, arith, suc-le-suc}
use Rattle.std.proofs.Common.{le_of_suc-le-suc, not-suc-le-zero}

-- a list has its first member
pub contains_first : {X : Type 0} (x : X) (xs : List X) → Contains (x ∷ xs) x
contains_first x xs = (0, omega arith, refl)

-- what the rest of a list has, the list has
pub contains_later : {X : Type 0} (y : X) (xs : List X) (x : X) → Contains xs x → Contains (y ∷ xs) x
contains_later y xs x c = (suc c.0, suc-le-suc c.1, c.2)

-- the empty list has no member
pub empty_contains_nothing : {X : Type 0} (x : X) → Contains [] x → ⊥
empty_contains_nothing x c = not-suc-le-zero c.1

at_index : {X : Type 0} (y : X) (xs : List X) (x : X) (k : ℕ) → k < suc (length xs) → get_or (y ∷ xs) k x ≡ x → (x ≡ y) ⊎ Contains xs x
at_index y xs x zero h e = inl (sym e)
at_index y xs x (suc k) h e = inr (k, le_of_suc-le-suc h, e)

-- a member of y and others is y or one of the others
pub contained : {X : Type 0} (y : X) (xs : List X) (x : X) → Contains (y ∷ xs) x → (x ≡ y) ⊎ Contains xs x
contained y xs x c = at_index y xs x c.0 c.1 c.2

-- each member of y ∷ S, from y and from each member of S
pub each : {X : Type 0} (P : X → Type 0) (y : X) (S : List X) → P y → ((x : X) → Contains S x → P x) → (x : X) → Contains (y ∷ S) x → P x
each P y S h f x c = elim (contained y S x c) [ inl e ↦ subst P (sym e) h | inr m ↦ f x m ]
