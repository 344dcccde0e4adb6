-- Texts whose bytes are the same once they are compared.
use Rattle.std.proofs.Common.{◌≡◌, ℕ, ◌==◌, Bool, IsTrue, List, [], ◌∷◌, length, map, refl, arith, eq-eqb}
use Rattle.std.proofs.lemmas.Bool.{and_from, and_parts, eqb-true}
use Rattle.std.specs.List.{list_all, zip}

-- whether two numbers come to one
abbrev pub same_under : (ℕ → ℕ) → ℕ × ℕ → Bool
same_under f pair = f pair.0 == f pair.1

-- lists of one length of which each two members come to one, come to one list
pub maps_of_paired : (f : ℕ → ℕ) (xs ys : List ℕ) → length xs ≡ length ys → IsTrue (list_all (same_under f) (zip xs ys)) → map f xs ≡ map f ys
maps_of_paired f [] [] e h = refl
maps_of_paired f [] (y ∷ ys) e h = absurd (omega (arith, e))
maps_of_paired f (x ∷ xs) [] e h = absurd (omega (arith, e))
maps_of_paired f (x ∷ xs) (y ∷ ys) e h =
    let parts = and_parts (f x == f y) (list_all (same_under f) (zip xs ys)) h in
    let one = eqb-true (f x) (f y) parts.0 in
    let others = maps_of_paired f xs ys (omega (arith, e)) parts.1 in
    rw (one, others) refl

-- and of lists that come to one, each two members do
pub paired_of_maps : (f : ℕ → ℕ) (xs ys : List ℕ) → map f xs ≡ map f ys → IsTrue (list_all (same_under f) (zip xs ys))
paired_of_maps f [] [] e = refl
paired_of_maps f [] (y ∷ ys) e = refl
paired_of_maps f (x ∷ xs) [] e = refl
paired_of_maps f (x ∷ xs) (y ∷ ys) e =
    let one : f x ≡ f y = cc e in
    let others : map f xs ≡ map f ys = cc e in
    and_from (f x == f y) (list_all (same_under f) (zip xs ys)) (eq-eqb (f x) (f y) one) (paired_of_maps f xs ys others)
