-- Where a test passes first.
use Rattle.std.proofs.Common.{◌≡◌, ℕ, suc, ◌+◌, ◌<◌, Bool, true, false, not, List, ◌∷◌, length, Some, None, nat_lt, cond, refl, ap, arith}
use Rattle.std.specs.List.{position, position_or_len}
use Rattle.std.proofs.lemmas.Bool.Decides.{nat_tests}

not_there : {X : Type 0} (b : Bool) (x : X) → cond b (Some x) None ≡ None → b ≡ false
not_there true x none = cc
not_there false x none = refl

step_over : (b : Bool) (k n : ℕ) → cond (nat_lt (cond (not b) (1 + k) 0) (suc n)) (Some (cond (not b) (1 + k) 0)) None ≡ None → (b ≡ false)
    × (nat_lt k n ≡ false)
step_over true k n none =
    let here = not_there (nat_lt 0 (suc n)) 0 none in
    absurd (grind (arith, nat_tests, here))
step_over false k n none =
    let behind = not_there (nat_lt (1 + k) (suc n)) (1 + k) none in
    (refl, grind (arith, nat_tests, behind))

-- a test that passes nowhere does not pass at the first member, nor behind it
pub passes_nowhere : {X : Type 0} (test : X → Bool) (x : X) (xs : List X) → position test (x ∷ xs) ≡ None → (test x ≡ false) × (position test xs ≡ None)
passes_nowhere test x xs none =
    let over = step_over (test x) (position_or_len test xs) (length xs) none in
    (over.0, ap (λ b. cond b (Some (position_or_len test xs)) None) over.1)

there_at : (b : Bool) (k index : ℕ) → cond b (Some k) None ≡ Some index → (b ≡ true) × (k ≡ index)
there_at true k index is = (refl, cc)
there_at false k index is = cc

-- the index of a member that passes a test is one of the list
pub index_within : {X : Type 0} (test : X → Bool) (xs : List X) (index : ℕ) → position test xs ≡ Some index → index < length xs
index_within test xs index is =
    let there = there_at (nat_lt (position_or_len test xs) (length xs)) (position_or_len test xs) index is in
    grind (arith, nat_tests, there.0, there.1)
