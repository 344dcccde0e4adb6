-- Colours of animals.
use Rattle.std.specs.Prelude.{ℕ, ◌-◌, ◌%◌, List, ◌++◌, codes}
use Rattle.page_text.specs.Figures.{digit}

-- the class of the colour of the animal with this number, counted from 1
abbrev pub colour : ℕ → List ℕ
colour number = codes "c" ++ digit ((number - 1) % 7)
