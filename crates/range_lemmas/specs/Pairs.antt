-- Two lists of one length, whose members go together index by index.
use Rattle.std.specs.Prelude.{ℕ, ◌+◌, List, [], ◌∷◌, ⊤}

-- two lists of one length, in which the members at each index stand in the relation with it, where the first index
-- is this one
abbrev pub PairedFrom : {X Y : Type 0} → (ℕ → X → Y → Type 0) → ℕ → List X → List Y → Type 0
PairedFrom R index [] [] = ⊤
PairedFrom R index [] (y ∷ ys) = ⊥
PairedFrom R index (x ∷ xs) [] = ⊥
PairedFrom R index (x ∷ xs) (y ∷ ys) = R index x y × PairedFrom R (index + 1) xs ys

-- two lists of one length, in which the members at each index stand in the relation with it, where the first index
-- is 0
abbrev pub Paired : {X Y : Type 0} → (ℕ → X → Y → Type 0) → List X → List Y → Type 0
Paired R xs ys = PairedFrom R 0 xs ys
