-- Overlaps of a report, read back.
use Rattle.std.proofs.Common.{◌≡◌, ◌+◌, ◌==◌, ℕ, zero, suc, true, false, List, [], ◌∷◌, ◌++◌, length, map, Ok, not, inl, inr, refl, ap, sym, ◌∙◌, codes, append_assoc, eq-eqb, ne_eqb}
use Rattle.std.specs.List.{All, filter, flat_map, range_with_len}
use Rattle.std.proofs.lemmas.Bool.{cases_eq, cases_lt}
use Rattle.std.proofs.lemmas.List.{get_or_past, map-append}
use Rattle.std.proofs.lemmas.List.Concat.{flat_map-append}
use Rattle.std.proofs.lemmas.List.Elements.{All-cons, All-get_or, All-head, All-nil, All-tail}
use Rattle.range_analysis.specs.Animals.{other_animals}
use Rattle.range_analysis.specs.Names.{name_at}
use Rattle.range_analysis.specs.declared.animal.OverlapRow.{OverlapRow}
use Rattle.range_report.specs.Report.{overlap_line}
use Rattle.page_report.specs.Reading.{one, overlap_in, overlaps_from, parts, put, ranges_from}
use Rattle.page_report.specs.declared.overlaps.Overlap.{Overlap}
use Rattle.page_laws.specs.Back.{overlap_from}
use Rattle.page_laws.specs.Within.{IsOverlapWithin, pair_of}
use Rattle.page_laws.proofs.FieldsBack.{Lacks}
use Rattle.page_laws.proofs.LinesBack.{IsLineOf, overlap_back}
use Rattle.page_laws.proofs.ManyBack.{one_back, then_found}

-- ---- a list that maps to two lists, one behind the other
record IsCut {A B : Type 0} (f : A → B) (P : A → Type 0) (xs : List A) (ys zs : List B) : Type 0 where
  front : List A
  back : List A
  whole : xs ≡ front ++ back
  first : map f front ≡ ys
  last : map f back ≡ zs
  all_first : All P front
  all_last : All P back

cut_map : {A B : Type 0} (f : A → B) (P : A → Type 0) (xs : List A) (ys zs : List B) → map f xs ≡ ys ++ zs → All P xs → IsCut f P xs ys zs
cut_map f P xs [] zs same all = record { front = []; back = xs; whole = refl; first = refl; last = same; all_first = All-nil P; all_last = all }
cut_map f P [] (y ∷ ys) zs same all = absurd cc
cut_map f P (x ∷ xs) (y ∷ ys) zs same all =
    let head : f x ≡ y = cc in
    let tail : map f xs ≡ ys ++ zs = cc in
    let cut = cut_map f P xs ys zs tail (All-tail P x xs all) in
    record {
      front = x ∷ cut.front;
      back = cut.back;
      whole = ap (λ l. x ∷ l) cut.whole;
      first = cc (head, cut.first);
      last = cut.last;
      all_first = All-cons P x cut.front (All-head P x xs all) cut.all_first;
      all_last = cut.all_last;
    }

-- ---- names
name_whole : (names : List (List ℕ)) (place : ℕ) → All (Lacks 10) names → Lacks 10 (name_at names place)
name_whole names place all = elim (cases_lt place (length names)) [
  | inl below ↦ All-get_or (Lacks 10) names place [] below all
  | inr past ↦ rw (get_or_past names place [] past) (All-nil (λ own. (own == 10) ≡ false))
]

module _ (names : List (List ℕ)) (whole : All (Lacks 10) names) where
  pub line_of : (row : OverlapRow) → IsOverlapWithin row → IsLineOf (codes "overlap,") (overlap_in names row.animal row.range) (overlap_line names row) (overlap_from row)
  line_of row within = overlap_back names row (name_whole names row.animal whole) (name_whole names row.range whole) within

  overlap_found : (animal range : ℕ) (row : OverlapRow) (rest : List ℕ) → row.animal ≡ animal → row.range ≡ range → IsOverlapWithin row
      → one (overlap_in names animal range) (parts (overlap_line names row ++ rest)) ≡ Ok (overlap_from row, parts rest)
  overlap_found animal range row rest own_animal own_range within = rw (← own_animal, ← own_range) (one_back (line_of row within) rest)

  overlaps_end : (ranges animal : ℕ) (lines : List (List ℕ)) → overlaps_from names ranges animal zero lines ≡ Ok ([], lines)
  unfolding overlaps_from
  overlaps_end ranges animal lines = refl

  overlaps_first : (ranges animal more : ℕ) (own found : List Overlap) (lines others behind : List (List ℕ)) → ranges_from names animal 0 ranges lines ≡ Ok (own, others)
      → overlaps_from names ranges (animal + 1) more others ≡ Ok (found, behind) → overlaps_from names ranges animal (suc more) lines ≡ Ok (own ++ found, behind)
  unfolding overlaps_from
  overlaps_first ranges animal more own found lines others behind first later = then_found _ _ own others _ first (ap (put own) later)

  ranges_end : (animal range : ℕ) (lines : List (List ℕ)) → ranges_from names animal range zero lines ≡ Ok ([], lines)
  unfolding ranges_from
  ranges_end animal range lines = refl

  -- an animal has no overlap with its own range
  ranges_own : (animal range more : ℕ) (lines : List (List ℕ)) → (range == animal) ≡ true
      → ranges_from names animal range (suc more) lines ≡ ranges_from names animal (range + 1) more lines
  unfolding ranges_from
  ranges_own animal range more lines own = rw own refl

  -- an overlap that is read, and then others
  ranges_more : (animal range more : ℕ) (row : OverlapRow) (others : List ℕ) (found : List Overlap) (behind : List (List ℕ)) → (range == animal) ≡ false
      → row.animal ≡ animal → row.range ≡ range → IsOverlapWithin row → ranges_from names animal (range + 1) more (parts others) ≡ Ok (found, behind)
      → ranges_from names animal range (suc more) (parts (overlap_line names row ++ others)) ≡ Ok (overlap_from row ∷ found, behind)
  unfolding ranges_from
  ranges_more animal range more row others found behind other own_animal own_range within later =
      rw other (then_found _ _ (overlap_from row) (parts others) _ (overlap_found animal range row others own_animal own_range within)
      (ap (put (overlap_from row ∷ [])) later))

  -- the ranges from one on, but for an animal's own, and their overlaps with it
  abbrev AreRangesBack : ℕ → ℕ → ℕ → List ℕ → List OverlapRow → Type 0
  AreRangesBack animal range more rest rows = map pair_of rows ≡ map (λ j. (animal, j)) (filter (λ j. not (animal == j)) (range_with_len range more)) → All IsOverlapWithin rows
      → ranges_from names animal range more (parts (flat_map (overlap_line names) rows ++ rest)) ≡ Ok (map overlap_from rows, parts rest)

  ranges_next : (animal range more : ℕ) (rows : List OverlapRow) (rest : List ℕ) → (range == animal) ≡ false
      → ((rows : List OverlapRow) → AreRangesBack animal (range + 1) more rest rows)
      → map pair_of rows ≡ (animal, range) ∷ map (λ j. (animal, j)) (filter (λ j. not (animal == j)) (range_with_len (range + 1) more)) → All IsOverlapWithin rows
      → ranges_from names animal range (suc more) (parts (flat_map (overlap_line names) rows ++ rest)) ≡ Ok (map overlap_from rows, parts rest)
  ranges_next animal range more [] rest other later same within = absurd cc
  ranges_next animal range more (row ∷ rows) rest other later same within =
      let own : pair_of row ≡ (animal, range) = cc in
      let others : map pair_of rows ≡ map (λ j. (animal, j)) (filter (λ j. not (animal == j)) (range_with_len (range + 1) more)) = cc in
      ap (λ text. ranges_from names animal range (suc more) (parts text)) (append_assoc (overlap_line names row) (flat_map (overlap_line names) rows) rest)
      ∙ ranges_more animal range more row (flat_map (overlap_line names) rows ++ rest) (map overlap_from rows) (parts rest) other (ap (λ pair. pair.0) own)
      (ap (λ pair. pair.1) own) (All-head IsOverlapWithin row rows within) (later rows others (All-tail IsOverlapWithin row rows within))

  ranges_back : (animal range more : ℕ) (rest : List ℕ) (rows : List OverlapRow) → AreRangesBack animal range more rest rows
  ranges_back animal range zero rest [] same within = ranges_end animal range (parts rest)
  ranges_back animal range zero rest (row ∷ rows) same within = absurd cc
  ranges_back animal range (suc more) rest rows same within = elim (cases_eq range animal) [
    | inl own ↦
        let skips : (animal == range) ≡ true = eq-eqb animal range (sym own) in
        ranges_own animal range more (parts (flat_map (overlap_line names) rows ++ rest)) (eq-eqb range animal own)
        ∙ ranges_back animal (range + 1) more rest rows (rw skips at same) within
    | inr other ↦
        let takes : (animal == range) ≡ false = ne_eqb animal range (λ e. other (sym e)) in
        ranges_next animal range more rows rest (ne_eqb range animal other) (ranges_back animal (range + 1) more rest) (rw takes at same) within
  ]

  -- the overlaps of animals from one on
  pub overlaps_back : (ranges animal more : ℕ) (rows : List OverlapRow) (rest : List ℕ)
      → map pair_of rows ≡ flat_map (λ i. map (λ j. (i, j)) (other_animals ranges i)) (range_with_len animal more) → All IsOverlapWithin rows
      → overlaps_from names ranges animal more (parts (flat_map (overlap_line names) rows ++ rest)) ≡ Ok (map overlap_from rows, parts rest)
  overlaps_back ranges animal zero [] rest same within = overlaps_end ranges animal (parts rest)
  overlaps_back ranges animal zero (row ∷ rows) rest same within = absurd cc
  overlaps_back ranges animal (suc more) rows rest same within =
      let cut = cut_map pair_of IsOverlapWithin rows (map (λ j. (animal, j)) (other_animals ranges animal)) _ same within in
      let line = overlap_line names in
      let others = flat_map line cut.back ++ rest in
      let text : flat_map line rows ++ rest ≡ flat_map line cut.front ++ others =
      ap (λ own. flat_map line own ++ rest) cut.whole ∙ ap (λ own. own ++ rest) (flat_map-append line cut.front cut.back)
      ∙ append_assoc (flat_map line cut.front) (flat_map line cut.back) rest in
      let said : map overlap_from rows ≡ map overlap_from cut.front ++ map overlap_from cut.back = ap (map overlap_from) cut.whole ∙ map-append overlap_from cut.front cut.back in
      ap (λ text. overlaps_from names ranges animal (suc more) (parts text)) text
      ∙ overlaps_first ranges animal more (map overlap_from cut.front) (map overlap_from cut.back) (parts (flat_map line cut.front ++ others)) (parts others) (parts rest)
      (ranges_back animal 0 ranges others cut.front cut.first cut.all_first) (overlaps_back ranges (animal + 1) more cut.back rest cut.last cut.all_last)
      ∙ ap (λ found. Ok (found, parts rest)) (sym said)
