-- What is left out, reason by reason.
use Rattle.std.proofs.Common.{◌≡◌, ◌∙◌, ℕ, ◌+◌, ◌<◌, cond, List, [], ◌∷◌, ◌++◌, Option, filter, get_or, length, map, nat_lt, take, refl, ap}
use Rattle.std.proofs.lemmas.List.{map-append, take_more}
use Rattle.std.proofs.lemmas.List.Elements.{filter-append}
use Rattle.split_tracks.specs.declared.fate.Fate.{Fate}
use Rattle.split_tracks.specs.declared.fate.Reason.{Reason}
use Rattle.split_output.specs.Left.{LeftOut, left_for, left_of, reasons}

-- lines of a count that is not 0, for the first reasons
abbrev pub left_so_far : List Fate → List ℕ → Option ℕ → ℕ → List LeftOut
left_so_far fates name animal k = filter (λ left. nat_lt 0 left.count) (map (left_for fates name animal) (take k reasons))

-- those of all reasons
pub left_all : (fates : List Fate) (name : List ℕ) (animal : Option ℕ) → left_so_far fates name animal 14 ≡ left_of fates name animal
unfolding left_of reasons
left_all fates name animal = refl

-- one reason more
pub left-more : (fates : List Fate) (name : List ℕ) (animal : Option ℕ) (k : ℕ) (why : Reason) → k < length reasons
    → left_so_far fates name animal (k + 1)
    ≡ left_so_far fates name animal k
    ++ cond (nat_lt 0 (left_for fates name animal (get_or reasons k why)).count) (left_for fates name animal (get_or reasons k why) ∷ []) []
left-more fates name animal k why below =
    let some = λ (left : LeftOut). nat_lt 0 left.count in
    let line = left_for fates name animal in
    ap (λ l. filter some (map line l)) (take_more reasons k why below)
    ∙ (ap (filter some) (map-append line (take k reasons) (get_or reasons k why ∷ []))
    ∙ filter-append some (map line (take k reasons)) (line (get_or reasons k why) ∷ []))
