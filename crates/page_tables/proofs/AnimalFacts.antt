-- The lines of `animals.csv`, part by part.
use Rattle.std.proofs.Common.{◌≡◌, ℕ, Bool, ◌+◌, ◌<◌, ◌≤◌, List, [], ◌∷◌, ◌++◌, codes, decimal, length, get_or, drop, map, sym, ap, ◌∙◌, append_assoc}
use Rattle.std.proofs.lemmas.Grind.{flat_map-append}
use Rattle.std.proofs.lemmas.List.{drop_all, drop_more}
use Rattle.std.specs.List.{slice_get}
use Rattle.page_report.specs.Reading.{Read}
use Rattle.page_tables.specs.Animals.{animal_titles, fact_cells, fact_titles, growth_cells, growth_titles, level_cell, level_titles, levels, reason_titles, titles_first, titles_last, told_cells, told_first, told_last, told_lines, whole_cell}
use Rattle.page_tables.specs.Lines.{behind, behind_comma, line, name_cell, table}
use Rattle.page_tables.specs.Overlaps.{name_if}
use Rattle.page_tables.specs.declared.animals.Told.{Told}

-- cells behind others, of two lists and of four
two : (xs ys : List (List ℕ)) → behind (xs ++ ys) ≡ behind xs ++ behind ys
two xs ys = flat_map-append behind_comma xs ys

four : (a b c d : List (List ℕ)) (end : List ℕ) → behind (a ++ (b ++ (c ++ d))) ++ end ≡ behind a ++ (behind b ++ (behind c ++ (behind d ++ end)))
four a b c d end =
    ap (λ l. l ++ end) (two a (b ++ (c ++ d)) ∙ ap (λ l. behind a ++ l) (two b (c ++ d) ∙ ap (λ l. behind b ++ l) (two c d)))
    ∙ append_assoc (behind a) (behind b ++ (behind c ++ behind d)) end
    ∙ ap (λ l. behind a ++ l) (append_assoc (behind b) (behind c ++ behind d) end ∙ ap (λ l. behind b ++ l) (append_assoc (behind c) (behind d) end))

-- a line, of which the first two cells are told
begun : (name records : List ℕ) (others : List (List ℕ)) → line (name ∷ records ∷ others) ≡ name ++ (behind_comma records ++ (behind others ++ codes "\n"))
begun name records others =
    append_assoc name (behind_comma records ++ behind others) (codes "\n") ∙ ap (λ l. name ++ l) (append_assoc (behind_comma records) (behind others) (codes "\n"))

halves : (a b c d e f g : List ℕ) → (((a ++ b) ++ c) ++ d) ++ ((e ++ f) ++ g) ≡ a ++ (b ++ (c ++ (d ++ (e ++ (f ++ g)))))
halves a b c d e f g = simp append_assoc

all_cells : (name records : List ℕ) (a b c d : List (List ℕ))
    → (((name ++ behind_comma records) ++ behind a) ++ behind b) ++ ((behind c ++ behind d) ++ codes "\n") ≡ line (name ∷ records ∷ (a ++ (b ++ (c ++ d))))
all_cells name records a b c d =
    halves name (behind_comma records) (behind a) (behind b) (behind c) (behind d) (codes "\n")
    ∙ sym (begun name records (a ++ (b ++ (c ++ d))) ∙ ap (λ l. name ++ (behind_comma records ++ l)) (four a b c d (codes "\n")))

pub told_line : (report : Read) (dated : Bool) (animal : ℕ) (told : Told) → told_first report dated animal told ++ told_last report dated animal told ≡ line (told_cells report dated animal told)
unfolding told_cells
told_line report dated animal told =
    all_cells (name_cell (name_if (slice_get report.animals animal))) (whole_cell told.records) (map decimal told.left.items) (fact_cells dated told.facts)
    (map (level_cell report animal) (levels report)) (growth_cells dated told.facts)

pub titles_line : (report : Read) (reasons : List (List ℕ)) → titles_first reasons ++ titles_last report ≡ line (animal_titles report reasons)
unfolding animal_titles
titles_line report reasons = all_cells (codes "animal") (codes "records") (reason_titles reasons) fact_titles (level_titles (levels report)) growth_titles

-- the lines that are left, where the next is written
pub next_told : (report : Read) (dated : Bool) (told : List Told) (animal : ℕ) (own : Told) → animal < length told → own ≡ get_or told animal own
    → table (told_lines report dated animal (drop animal told)) ≡ line (told_cells report dated animal own) ++ table (told_lines report dated (animal + 1) (drop (animal + 1) told))
unfolding told_lines
next_told report dated told animal own within is =
    let rest = table (told_lines report dated (animal + 1) (drop (animal + 1) told)) in
    ap (λ l. table (told_lines report dated animal l)) (drop_more told animal own within) ∙ ap (λ x. line (told_cells report dated animal x) ++ rest) (sym is)

pub none_told : (report : Read) (dated : Bool) (told : List Told) (animal : ℕ) → length told ≤ animal → table (told_lines report dated animal (drop animal told)) ≡ []
unfolding told_lines
none_told report dated told animal ended = ap (λ l. table (told_lines report dated animal l)) (drop_all animal told ended)
