-- The lines of records, and one more.
use Rattle.std.proofs.Common.{◌≡◌, ◌+◌, ◌<◌, ℕ, List, [], ◌∷◌, ◌++◌, ap, append_assoc, append-nil, arith, get_or, length, take}
use Rattle.std.proofs.lemmas.Grind.{flat_map-append}
use Rattle.std.proofs.lemmas.List.{length-take-le, take_more}
use Rattle.split_tracks.specs.declared.fate.Fate.{Fate}
use Rattle.split_record.specs.Fates.{fate_line, fate_lines, titles}
use Rattle.split_record.specs.Lines.{text_of_all, text_of_line}

-- one more record, of the number that comes next
fate_lines-push : (names : List (List ℕ)) (number : ℕ) (fates : List Fate) (fate : Fate) (next : ℕ) → number + length fates ≡ next
    → fate_lines names number (fates ++ fate ∷ []) ≡ fate_lines names number fates ++ fate_line names next fate ∷ []
unfolding fate_lines
fate_lines-push names number [] fate next is =
    let same : number ≡ next = grind (arith, is) in
    ap (λ (n : ℕ). fate_line names n fate ∷ []) same
fate_lines-push names number (first ∷ others) fate next is =
    ap (λ lines. fate_line names number first ∷ lines) (fate_lines-push names (number + 1) others fate next (grind (arith, is)))

-- the text of the lines of so many records, and that of the next
pub one_more : (names : List (List ℕ)) (fates : List Fate) (index : ℕ) (none : Fate) (old new : List ℕ) → index < length fates
    → old ≡ text_of_all (titles ∷ fate_lines names 1 (take index fates)) → new ≡ old ++ text_of_line (fate_line names (index + 1) (get_or fates index none))
    → new ≡ text_of_all (titles ∷ fate_lines names 1 (take (index + 1) fates))
one_more names fates index none old new within was is =
    let numbered : 1 + length (take index fates) ≡ index + 1 = grind (arith, length-take-le) in
    let lines : fate_lines names 1 (take (index + 1) fates) ≡ fate_lines names 1 (take index fates) ++ fate_line names (index + 1) (get_or fates index none) ∷ [] =
    rw (take_more fates index none within) (fate_lines-push names 1 (take index fates) (get_or fates index none) (index + 1) numbered) in
    grind (arith, lines, was, is, flat_map-append, append-nil, append_assoc)
