-- The texts of parts that several threads wrote.
use Rattle.std.proofs.Common.{◌≡◌, ◌++◌, List, [], ◌∷◌, refl, ap₂}
use Rattle.std.specs.List.{AllZip, flat_map}

-- texts V, which have these bytes, each of its part P
pub texts_of_parts : {P V A : Type 0} (bytes : V → List A) (text : P → List A) (parts : List P) (texts : List V)
    → AllZip (λ part one. bytes one ≡ text part) parts texts
    → flat_map bytes texts ≡ flat_map text parts
texts_of_parts bytes text [] [] each = refl
texts_of_parts bytes text [] (t ∷ texts) each = absurd each
texts_of_parts bytes text (p ∷ parts) [] each = absurd each
texts_of_parts bytes text (p ∷ parts) (t ∷ texts) each = ap₂ (λ one rest. one ++ rest) each.0 (texts_of_parts bytes text parts texts each.1)
