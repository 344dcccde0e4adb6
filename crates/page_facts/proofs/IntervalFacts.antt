-- Intervals, one more found.
use Rattle.std.proofs.Common.{◌≡◌, ℕ, ◌+◌, ◌-◌, ◌<◌, ◌≤◌, List, [], ◌∷◌, ◌++◌, length, get_or, drop, map, sym, ap, ◌∙◌, append_assoc, append-nil}
use Rattle.std.proofs.lemmas.List.{drop_all, drop_more}
use Rattle.range_estimator.specs.declared.row.Row.{Row}
use Rattle.page_facts.specs.Facts.{intervals_behind}

-- the seconds of rows
abbrev seconds : List Row → List ℕ
seconds rows = map (λ row. row.second) rows

-- a row that is not there
abbrev none : Row
none = record { second = 0; corners = 0; area2 = 0 }

-- intervals, where that behind the next row is found, come to the same
pub interval_on : (found all : List ℕ) (rows : List Row) (former place : ℕ) → place < length rows
    → found ++ intervals_behind former (seconds (drop place rows)) ≡ all
    → (found ++ ((get_or rows place none).second - former) ∷ []) ++ intervals_behind (get_or rows place none).second (seconds (drop (place + 1) rows)) ≡ all
unfolding intervals_behind
interval_on found all rows former place within whole =
    append_assoc found (((get_or rows place none).second - former) ∷ []) (intervals_behind (get_or rows place none).second (seconds (drop (place + 1) rows)))
    ∙ ap (λ left. found ++ intervals_behind former (seconds left)) (sym (drop_more rows place none within)) ∙ whole

-- and are all where no row is left
pub intervals_end : (found all : List ℕ) (rows : List Row) (former place : ℕ) → length rows ≤ place
    → found ++ intervals_behind former (seconds (drop place rows)) ≡ all → found ≡ all
unfolding intervals_behind
intervals_end found all rows former place ended whole =
    sym (append-nil found) ∙ ap (λ left. found ++ intervals_behind former (seconds left)) (sym (drop_all place rows ended)) ∙ whole
