-- Animals by the names of their files.
use Rattle.std.proofs.Common.{◌≡◌, ◌∙◌, ℕ, ◌+◌, ◌<◌, Bool, List, [], ◌∷◌, ◌++◌, get_or, length, map, take, sym, ap, ap₂, arith}
use Rattle.std.proofs.lemmas.List.{get_or-map, length-map, length-take-le, take_more}
use Rattle.std.specs.List.{enumerate_from}
use Rattle.std.specs.List.Sorted.{IsSortedBy}

-- one member more, with its number
enumerate_from-push : {X : Type 0} (n : ℕ) (xs : List X) (x : X) → enumerate_from n (xs ++ x ∷ []) ≡ enumerate_from n xs ++ (n + length xs, x) ∷ []
enumerate_from-push n [] x = ap (λ m. (m, x) ∷ []) (omega arith)
enumerate_from-push n (y ∷ xs) x =
    ap (λ l. (n, y) ∷ l) (enumerate_from-push (n + 1) xs x ∙ ap (λ m. enumerate_from (n + 1) xs ++ (m, x) ∷ []) (omega arith))

-- what is in an order stays in it where each member is seen by what the order looks at
pub IsSortedBy-map : {X Y : Type 0} (f : X → Y) (lt : Y → Y → Bool) (xs : List X) → IsSortedBy (λ one other. lt (f one) (f other)) xs → IsSortedBy lt (map f xs)
IsSortedBy-map f lt [] sorted k d low high = absurd (omega (arith, high))
IsSortedBy-map f lt (x ∷ xs) sorted k d low high =
    let within : k + 1 < length (x ∷ xs) = omega (arith, high, length-map (x ∷ xs) f) in
    let here : k < length (x ∷ xs) = omega (arith, within) in
    ap₂ lt (get_or-map f (x ∷ xs) (k + 1) x d within) (get_or-map f (x ∷ xs) k x d here) ∙ sorted k x low within

-- one name more, with its number
pub numbered-push : (names : List (List ℕ)) (k : ℕ) (name : List ℕ) → k < length names → get_or names k [] ≡ name
    → enumerate_from 0 (take k names) ++ (k, name) ∷ [] ≡ enumerate_from 0 (take (k + 1) names)
numbered-push names k name below is =
    sym (ap (enumerate_from 0) (take_more names k [] below ∙ ap (λ one. take k names ++ one ∷ []) is)
    ∙ (enumerate_from-push 0 (take k names) name
    ∙ ap (λ n. enumerate_from 0 (take k names) ++ (n, name) ∷ []) (omega (arith, length-take-le k names (omega arith)))))
