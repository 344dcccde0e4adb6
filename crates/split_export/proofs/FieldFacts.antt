-- The fields of a record, field for field.
use Rattle.std.proofs.Common.{◌≡◌, ◌∙◌, ◌+◌, ◌<◌, ℕ, zero, suc, List, [], ◌∷◌, ◌++◌, Vec, Global, length, take, refl, ap, arith, add-one}
use Rattle.std.proofs.lemmas.List.{map-append}
use Rattle.csv.specs.Records.{field_at}
use Rattle.split_reading.specs.Cells.{field}
use Rattle.split_export.specs.Export.{bytes_of}

up_to : (fields : List (List ℕ)) (place : ℕ) → place < length fields → take (suc place) fields ≡ take place fields ++ field fields place ∷ []
unfolding field_at
up_to [] place there = absurd (omega (arith, there))
up_to (first ∷ others) zero there = refl
up_to (first ∷ others) (suc place) there = ap (λ (l : List (List ℕ)). first ∷ l) (up_to others place (omega (arith, there)))

-- fields up to a place, and the one at it
pub field_more : (fields : List (List ℕ)) (place : ℕ) → place < length fields → take (place + 1) fields ≡ take place fields ++ field fields place ∷ []
field_more fields place there = rw add-one (up_to fields place there)

-- the bytes of texts and of one more
pub bytes_more : (own more : List (Vec ℕ Global)) (last : Vec ℕ Global) → more ≡ own ++ last ∷ [] → bytes_of more ≡ bytes_of own ++ last.items ∷ []
bytes_more own more last is = ap bytes_of is ∙ map-append (λ text. text.items) own (last ∷ [])
