-- The order in which animals come.
use Rattle.std.specs.Prelude.{ℕ, ◌==◌, not, List, [], ◌∷◌, Option, Some, None, filter, filter_map, nat_lt, if◌then◌else◌}
use Rattle.split_tracks.specs.declared.fate.Fate.{Fate}
use Rattle.split_tracks.specs.declared.fate.Fate.TheVariants.{InTrack, LeftOut}

-- the animal in whose track a record is, if it is in the track of one of so many
abbrev pub animal_in : ℕ → Fate → Option ℕ
animal_in animals (InTrack animal entry) = if nat_lt animal animals then Some animal else None
animal_in animals (LeftOut animal reason) = None

-- numbers, each where it first stands alone
abbrev pub firsts : List ℕ → List ℕ
firsts [] = []
firsts (number ∷ others) = number ∷ filter (λ other. not (other == number)) (firsts others)

-- the animals, of so many, that have tracks, in the order of the first records of these
abbrev pub animals_in_order : ℕ → List Fate → List ℕ
animals_in_order animals fates = firsts (filter_map (animal_in animals) fates)
