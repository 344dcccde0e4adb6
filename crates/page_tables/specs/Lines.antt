-- A table: lines of cells, each cell as it is written.
use Rattle.std.specs.Prelude.{ℕ, List, [], ◌∷◌, ◌++◌, codes}
use Rattle.std.specs.List.{flat_map}
use Rattle.page_text.specs.Cells.{cell}

-- the cell of a name
unfoldable pub name_cell : List ℕ → List ℕ
name_cell name = cell name

-- cells behind others
abbrev pub behind_comma : List ℕ → List ℕ
behind_comma own = codes "," ++ own

abbrev pub behind : List (List ℕ) → List ℕ
behind cells = flat_map behind_comma cells

-- the cells of a line
abbrev pub joined : List (List ℕ) → List ℕ
joined [] = []
joined (first ∷ others) = first ++ behind others

abbrev pub line : List (List ℕ) → List ℕ
line cells = joined cells ++ codes "\n"

-- the text of a table
abbrev pub table : List (List (List ℕ)) → List ℕ
table lines = flat_map line lines
