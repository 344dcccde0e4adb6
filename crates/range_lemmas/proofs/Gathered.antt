-- Results, one for each member of a list, gathered into one result of a list.
use Rattle.std.proofs.Common.{◌≡◌, List, [], ◌∷◌, map, Ok, Err, Vec}
use Rattle.std.specs.Prelude.{Contains, IfOk, MatchResult}
use Rattle.std.specs.List.{AllZip}
use Rattle.std.specs.declared.result.Result.{Result}

-- a result that is as wanted of a, or an error
abbrev pub IsResultOf : {A B E : Type 0} → (A → B → Type 0) → A → Result B E → Type 0
IsResultOf Wanted a result = IfOk result (Wanted a)

each_ok : {A B : Type 0} (E : Type 0) (Wanted : A → B → Type 0) (of : List A) (all : List B)
    → AllZip (λ a (r : Result B E). IsResultOf Wanted a r) of (map Ok all) → AllZip Wanted of all
each_ok E Wanted [] [] each = tt
each_ok E Wanted [] (b ∷ all) each = absurd each
each_ok E Wanted (a ∷ of) [] each = absurd each
each_ok E Wanted (a ∷ of) (b ∷ all) each = (each.0, each_ok E Wanted of all each.1)

-- where none of them is an error, all members are as wanted, each of its own
pub gathered : {A B H E : Type 0} (Wanted : A → B → Type 0) (of : List A) (results : List (Result B E)) (all : Result (Vec B H) E)
    → AllZip (λ a r. IsResultOf Wanted a r) of results
    → MatchResult all (λ vec. (each : List B) × (results ≡ map Ok each) × (vec.items ≡ each)) (λ fault. Contains results (Err fault))
    → IfOk all (λ vec. AllZip Wanted of vec.items)
gathered {E = E} Wanted of results (Ok vec) each gives = rw gives.2 (each_ok E Wanted of gives.0 (rw gives.1 at each))
gathered Wanted of results (Err fault) each gives = tt
