-- Tables, one more cell or line written.
use Rattle.std.proofs.Common.{◌≡◌, ℕ, Bool, suc, ◌+◌, ◌-◌, ◌<◌, ◌≤◌, List, [], ◌∷◌, ◌++◌, length, take, map, refl, sym, ap, ◌∙◌, arith, append_assoc, append-nil, Bor}
use Rattle.std.proofs.lemmas.Grind.{flat_map-append}
use Rattle.std.proofs.lemmas.List.{take_all}
use Rattle.std.specs.List.{flat_map}
use Rattle.range_plane.specs.declared.scale.Scale.{Scale}
use Rattle.page_report.specs.Reading.{Read, said}
use Rattle.page_report.specs.declared.animal.ReadAnimal.{ReadAnimal}
use Rattle.page_tables.specs.Lines.{behind, behind_comma, line, name_cell, table}
use Rattle.page_tables.specs.Overlaps.{cells_from, lines_from, overlap_cell, overlap_cells}
use Rattle.page_tables.specs.Summary.{animal_lines}

-- a text with a part of what is left written comes to the same
pub one_more : (text all part left rest : List ℕ) → rest ≡ part ++ left → text ++ rest ≡ all → (text ++ part) ++ left ≡ all
one_more text all part left rest split whole = append_assoc text part left ∙ ap (λ l. text ++ l) (sym split) ∙ whole

-- and is all where nothing is left
pub no_more : (text all rest : List ℕ) → rest ≡ [] → text ++ rest ≡ all → text ≡ all
no_more text all rest none whole = sym (append-nil text) ∙ ap (λ l. text ++ l) (sym none) ∙ whole

-- a list that is written to its end
pub written : {A : Type 0} (f : A → List ℕ) (xs : List A) (place : ℕ) → length xs ≤ place → flat_map f (take place xs) ≡ flat_map f xs
written f xs place ended = ap (flat_map f) (take_all place xs ended)

-- the lines of a list
pub table_of_map : {A : Type 0} (f : A → List (List ℕ)) (xs : List A) → flat_map (λ x. line (f x)) xs ≡ table (map f xs)
table_of_map f [] = refl
table_of_map f (x ∷ xs) = ap (λ l. line (f x) ++ l) (table_of_map f xs)

pub behind_of_map : {A : Type 0} (f : A → List ℕ) (xs : List A) → flat_map (λ x. behind_comma (f x)) xs ≡ behind (map f xs)
behind_of_map f [] = refl
behind_of_map f (x ∷ xs) = ap (λ l. behind_comma (f x) ++ l) (behind_of_map f xs)

pub behind_of_texts : (f : List ℕ → List ℕ) (xs : List (Bor (List ℕ))) → flat_map (λ x. behind_comma (f x.now)) xs ≡ behind (map f (map (λ x. x.now) xs))
behind_of_texts f [] = refl
behind_of_texts f (x ∷ xs) = ap (λ l. behind_comma (f x.now) ++ l) (behind_of_texts f xs)

-- the lines of animals, and their names
pub animals_table : (dated : Bool) (unit : Scale) (animals : List ReadAnimal)
    → flat_map (λ animal. table (animal_lines dated unit (said animal))) animals ≡ table (flat_map (animal_lines dated unit) (map said animals))
animals_table dated unit [] = refl
animals_table dated unit (animal ∷ animals) =
    ap (λ l. table (animal_lines dated unit (said animal)) ++ l) (animals_table dated unit animals)
    ∙ sym (flat_map-append line (animal_lines dated unit (said animal)) (flat_map (animal_lines dated unit) (map said animals)))

pub names_behind : (animals : List ReadAnimal)
    → flat_map (λ animal. behind_comma (name_cell animal.name.items)) animals ≡ behind (map (λ animal. name_cell animal.name) (map said animals))
names_behind [] = refl
names_behind (animal ∷ animals) = ap (λ l. behind_comma (name_cell animal.name.items) ++ l) (names_behind animals)

-- so many more, of which one is next
left_more : (all before : ℕ) → before < all → all - before ≡ suc (all - (before + 1))
left_more all before below = omega (arith, below)

left_none : (all before : ℕ) → all ≤ before → all - before ≡ 0
left_none all before past = omega (arith, past)

-- the cells of an animal, and the lines of all
pub next_cell : (report : Read) (animal range all : ℕ) → range < all
    → behind (cells_from report animal range (all - range)) ≡ behind_comma (overlap_cell report animal range) ++ behind (cells_from report animal (range + 1) (all - (range + 1)))
unfolding cells_from
next_cell report animal range all within = ap (λ n. behind (cells_from report animal range n)) (left_more all range within)

pub no_cell : (report : Read) (animal range all : ℕ) → all ≤ range → behind (cells_from report animal range (all - range)) ≡ []
unfolding cells_from
no_cell report animal range all ended = ap (λ n. behind (cells_from report animal range n)) (left_none all range ended)

pub next_line : (report : Read) (animal all : ℕ) → animal < all
    → table (lines_from report animal (all - animal)) ≡ line (overlap_cells report animal) ++ table (lines_from report (animal + 1) (all - (animal + 1)))
unfolding lines_from
next_line report animal all within = ap (λ n. table (lines_from report animal n)) (left_more all animal within)

pub no_line : (report : Read) (animal all : ℕ) → all ≤ animal → table (lines_from report animal (all - animal)) ≡ []
unfolding lines_from
no_line report animal all ended = ap (λ n. table (lines_from report animal n)) (left_none all animal ended)
