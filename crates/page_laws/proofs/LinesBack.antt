-- Lines of a report, read back.
use Rattle.std.proofs.Common.{◌≡◌, ◌<◌, ◌≤◌, ◌^◌, ◌==◌, ℕ, ℤ, pos, negsuc, true, false, List, [], ◌∷◌, ◌++◌, Option, Some, not, refl, subst, codes, decimal, arith, append_assoc, eq-eqb}
use Rattle.std.specs.List.{All, list_all}
use Rattle.std.proofs.lemmas.Bool.{and_parts, not-true}
use Rattle.std.proofs.lemmas.Int.{ints}
use Rattle.std.proofs.lemmas.List.Elements.{All-append, All-cons, All-nil}
use Rattle.range_estimator.specs.declared.row.Row.{Row}
use Rattle.range_lanes.specs.declared.extent.Extent.{Extent}
use Rattle.range_plane.specs.Plane.{IsCoordinate, Position}
use Rattle.range_stats.specs.declared.percents.PercentRow.{PercentRow}
use Rattle.range_analysis.specs.Names.{name_at}
use Rattle.range_analysis.specs.declared.animal.OverlapRow.{OverlapRow}
use Rattle.range_report.specs.Report.{animal_line, box_line, corner_line, end_line, overlap_line, percent_line, point_text, row_line}
use Rattle.page_report.specs.Lines.{behind_name, behind_number, box_of, corner_of, end_of, head_of, overlap_of, percent_of, row_of}
use Rattle.page_report.specs.Reading.{last_of, overlap_in}
use Rattle.page_report.specs.declared.fields.TheConstants.{MOST, MOST_COUNT, MOST_LEVEL}
use Rattle.page_laws.specs.Back.{corner_from, overlap_from}
use Rattle.page_laws.specs.Within.{IsExtentWithin, IsOverlapWithin, IsPercentWithin, IsRowWithin}
use Rattle.page_laws.proofs.FieldsBack.{Lacks, behind_word, cut_at, lacks_field, lacks_number, number_back, numbered_back, then_some}

-- a text is one line of a kind, and is read as this
pub record IsLineOf {A : Type 0} (kind : List ℕ) (read : List ℕ → Option A) (text : List ℕ) (own : A) : Type 0 where
  -- what stands behind the kind
  pub said : List ℕ
  pub ended : text ≡ kind ++ said ++ codes "\n"
  pub one_line : All (λ byte. (byte == 10) ≡ false) (kind ++ said)
  pub is_read : read (kind ++ said) ≡ Some own

-- ---- what lines have in common
lacks_tested : (byte : ℕ) (word : List ℕ) → list_all (λ own. not (own == byte)) word ≡ true → Lacks byte word
lacks_tested byte [] all = All-nil (λ own. (own == byte) ≡ false)
lacks_tested byte (own ∷ word) all =
    let parts = and_parts (not (own == byte)) (list_all (λ own. not (own == byte)) word) all in
    All-cons (λ own. (own == byte) ≡ false) own word (not-true (own == byte) parts.0) (lacks_tested byte word parts.1)

-- a kind and what stands behind it have no end of a line
kind_whole : (kind said : List ℕ) → list_all (λ own. not (own == 10)) kind ≡ true → Lacks 10 said → Lacks 10 (kind ++ said)
kind_whole kind said kinds own = All-append (λ own. (own == 10) ≡ false) kind said (lacks_tested 10 kind kinds) own

-- a number has none, nor has one more behind it
whole_number : (n most : ℕ) → n ≤ most → most < 2 ^ 64 → Lacks 10 (decimal n)
whole_number n most within fits = lacks_number 10 n (omega arith) (omega (arith, within, fits))

whole_numbered : (n most : ℕ) (rest : List ℕ) → n ≤ most → most < 2 ^ 64 → Lacks 10 rest → Lacks 10 (decimal n ++ 44 ∷ rest)
whole_numbered n most rest within fits whole = lacks_field 10 (decimal n) rest refl (whole_number n most within fits) whole

name_back : (kind name rest : List ℕ) → behind_name kind name (kind ++ (name ++ 44 ∷ rest)) ≡ Some rest
unfolding behind_name
name_back kind name rest =
    then_some _ _ (name ++ 44 ∷ rest) _ (behind_word kind (name ++ 44 ∷ rest))
    (then_some _ _ (44 ∷ rest) _ (behind_word name (44 ∷ rest)) (behind_word (codes ",") rest))

own_number_back : (number : ℕ) (rest : List ℕ) → number ≤ MOST_COUNT → behind_number number (decimal number ++ 44 ∷ rest) ≡ Some rest
unfolding behind_number
own_number_back number rest within =
    then_some _ _ (number, rest) _ (numbered_back MOST_COUNT number rest within (omega arith)) (rw (eq-eqb number number refl) refl)

-- parts that stand behind a kind, with a comma between them
three_parts : (kind a b c end : List ℕ) → kind ++ a ++ b ++ c ++ end ≡ kind ++ (a ++ (b ++ c)) ++ end
three_parts kind a b c end = simp append_assoc

four_parts : (comma kind name a b c end : List ℕ) → kind ++ name ++ (comma ++ a) ++ (comma ++ b ++ comma ++ c) ++ end
    ≡ kind ++ (name ++ (comma ++ (a ++ (comma ++ (b ++ (comma ++ c)))))) ++ end
four_parts comma kind name a b c end = simp append_assoc

five_parts : (comma kind name a b c d end : List ℕ) → kind ++ name ++ (comma ++ a) ++ (comma ++ b) ++ (comma ++ c) ++ (comma ++ d) ++ end
    ≡ kind ++ (name ++ (comma ++ (a ++ (comma ++ (b ++ (comma ++ (c ++ (comma ++ d)))))))) ++ end
five_parts comma kind name a b c d end = simp append_assoc

-- two points
point_parts : (comma kind name a b c d end : List ℕ) → kind ++ name ++ (comma ++ a ++ comma ++ b) ++ (comma ++ c ++ comma ++ d) ++ end
    ≡ kind ++ (name ++ (comma ++ (a ++ (comma ++ (b ++ (comma ++ (c ++ (comma ++ d)))))))) ++ end
point_parts comma kind name a b c d end = simp append_assoc

-- two names
name_parts : (comma kind animal range a b end : List ℕ) → kind ++ animal ++ comma ++ range ++ (comma ++ a) ++ (comma ++ b) ++ end
    ≡ kind ++ (animal ++ (comma ++ (range ++ (comma ++ (a ++ (comma ++ b)))))) ++ end
name_parts comma kind animal range a b end = simp append_assoc

-- a coordinate is a number that may stand in a report
coordinate_number : (z : ℤ) → IsCoordinate z → (n : ℕ) × (z ≡ pos n) × (n ≤ MOST)
coordinate_number (pos n) within = (n, refl, omega (arith, ints, within.1))
coordinate_number (negsuc n) within = absurd (omega (arith, ints, within.0))

-- ---- the first line of an animal
head_read : (name : List ℕ) (count : ℕ) → Lacks 44 name → count ≤ MOST_COUNT
    → head_of (codes "animal," ++ (name ++ 44 ∷ (codes "fixes," ++ decimal count))) ≡ Some (name, count)
unfolding head_of
head_read name count plain within =
    then_some _ _ _ _ (behind_word (codes "animal,") _)
    (then_some _ _ _ _ (cut_at 44 name _ plain)
    (then_some _ _ _ _ (behind_word (codes "fixes,") _)
    (then_some _ _ _ _ (number_back MOST_COUNT count within (omega arith)) refl)))

pub head_back : (name : List ℕ) (count : ℕ) → Lacks 44 name → Lacks 10 name → count ≤ MOST_COUNT
    → IsLineOf (codes "animal,") head_of (animal_line name count) (name, count)
head_back name count plain named within = record {
  said = name ++ 44 ∷ (codes "fixes," ++ decimal count);
  ended = three_parts (codes "animal,") name (codes ",fixes,") (decimal count) (codes "\n");
  one_line = kind_whole (codes "animal,") _ refl
      (lacks_field 10 name _ refl named (kind_whole (codes "fixes,") _ refl (whole_number count MOST_COUNT within (omega arith))));
  is_read = head_read name count plain within;
}

-- ---- the line of a box
box_read : (name : List ℕ) (west south east north : ℕ) → west ≤ MOST → south ≤ MOST → east ≤ MOST → north ≤ MOST
    → box_of name (codes "box," ++ (name ++ 44 ∷ (decimal west ++ 44 ∷ (decimal south ++ 44 ∷ (decimal east ++ 44 ∷ decimal north)))))
    ≡ Some (record { min_e = pos west; min_n = pos south; max_e = pos east; max_n = pos north })
unfolding box_of
box_read name west south east north w s e n =
    then_some _ _ _ _ (name_back (codes "box,") name _)
    (then_some _ _ _ _ (numbered_back MOST west _ w (omega arith))
    (then_some _ _ _ _ (numbered_back MOST south _ s (omega arith))
    (then_some _ _ _ _ (numbered_back MOST east _ e (omega arith))
    (then_some _ _ _ _ (number_back MOST north n (omega arith)) refl))))

box_of_numbers : (name : List ℕ) (west south east north : ℕ) → Lacks 10 name → west ≤ MOST → south ≤ MOST → east ≤ MOST → north ≤ MOST
    → (let extent : Extent = record { min_e = pos west; min_n = pos south; max_e = pos east; max_n = pos north } in
    IsLineOf (codes "box,") (box_of name) (box_line name extent) extent)
unfolding point_text
box_of_numbers name west south east north named w s e n = record {
  said = name ++ 44 ∷ (decimal west ++ 44 ∷ (decimal south ++ 44 ∷ (decimal east ++ 44 ∷ decimal north)));
  ended = point_parts (codes ",") (codes "box,") name (decimal west) (decimal south) (decimal east) (decimal north) (codes "\n");
  one_line = kind_whole (codes "box,") _ refl
      (lacks_field 10 name _ refl named (whole_numbered west MOST _ w (omega arith) (whole_numbered south MOST _ s (omega arith)
      (whole_numbered east MOST _ e (omega arith) (whole_number north MOST n (omega arith))))));
  is_read = box_read name west south east north w s e n;
}

pub box_back : (name : List ℕ) (extent : Extent) → Lacks 10 name → IsExtentWithin extent → IsLineOf (codes "box,") (box_of name) (box_line name extent) extent
box_back name extent named within =
    let west = coordinate_number extent.min_e within.west in
    let south = coordinate_number extent.min_n within.south in
    let east = coordinate_number extent.max_e within.east in
    let north = coordinate_number extent.max_n within.north in
    let numbers : Extent = record { min_e = pos west.0; min_n = pos south.0; max_e = pos east.0; max_n = pos north.0 } in
    let same : numbers ≡ extent = rw (← west.1, ← south.1, ← east.1, ← north.1) refl in
    subst (λ (box : Extent). IsLineOf (codes "box,") (box_of name) (box_line name box) box) same
    (box_of_numbers name west.0 south.0 east.0 north.0 named west.2 south.2 east.2 north.2)

-- ---- the line of a row
row_read : (name : List ℕ) (number : ℕ) (row : Row) → number ≤ MOST_COUNT → IsRowWithin row
    → row_of name number (codes "row," ++ (name ++ 44 ∷ (decimal number ++ 44 ∷ (decimal row.second ++ 44 ∷ (decimal row.corners ++ 44 ∷ decimal row.area2))))) ≡ Some row
unfolding row_of
row_read name number row counted within =
    then_some _ _ _ _ (name_back (codes "row,") name _)
    (then_some _ _ _ _ (own_number_back number _ counted)
    (then_some _ _ _ _ (numbered_back MOST row.second _ within.second (omega arith))
    (then_some _ _ _ _ (numbered_back MOST_COUNT row.corners _ within.corners (omega arith))
    (then_some _ _ _ _ (number_back MOST row.area2 within.area2 (omega arith)) refl))))

pub row_back : (name : List ℕ) (number : ℕ) (row : Row) → Lacks 10 name → number ≤ MOST_COUNT → IsRowWithin row
    → IsLineOf (codes "row,") (row_of name number) (row_line name number row) row
row_back name number row named counted within = record {
  said = name ++ 44 ∷ (decimal number ++ 44 ∷ (decimal row.second ++ 44 ∷ (decimal row.corners ++ 44 ∷ decimal row.area2)));
  ended = five_parts (codes ",") (codes "row,") name (decimal number) (decimal row.second) (decimal row.corners) (decimal row.area2) (codes "\n");
  one_line = kind_whole (codes "row,") _ refl
      (lacks_field 10 name _ refl named (whole_numbered number MOST_COUNT _ counted (omega arith) (whole_numbered row.second MOST _ within.second (omega arith)
      (whole_numbered row.corners MOST_COUNT _ within.corners (omega arith) (whole_number row.area2 MOST within.area2 (omega arith))))));
  is_read = row_read name number row counted within;
}

-- ---- the line of a corner
corner_read : (name : List ℕ) (number easting northing : ℕ) → number ≤ MOST_COUNT → easting ≤ MOST → northing ≤ MOST
    → corner_of name number (codes "corner," ++ (name ++ 44 ∷ (decimal number ++ 44 ∷ (decimal easting ++ 44 ∷ decimal northing))))
    ≡ Some (record { easting = pos easting; northing = pos northing })
unfolding corner_of
corner_read name number easting northing counted e n =
    then_some _ _ _ _ (name_back (codes "corner,") name _)
    (then_some _ _ _ _ (own_number_back number _ counted)
    (then_some _ _ _ _ (numbered_back MOST easting _ e (omega arith))
    (then_some _ _ _ _ (number_back MOST northing n (omega arith)) refl)))

corner_of_numbers : (name : List ℕ) (number easting northing : ℕ) → Lacks 10 name → number ≤ MOST_COUNT → easting ≤ MOST → northing ≤ MOST
    → (let corner : Position = record { e = pos easting; n = pos northing } in
    IsLineOf (codes "corner,") (corner_of name number) (corner_line name number corner) (corner_from corner))
unfolding point_text
corner_of_numbers name number easting northing named counted e n = record {
  said = name ++ 44 ∷ (decimal number ++ 44 ∷ (decimal easting ++ 44 ∷ decimal northing));
  ended = four_parts (codes ",") (codes "corner,") name (decimal number) (decimal easting) (decimal northing) (codes "\n");
  one_line = kind_whole (codes "corner,") _ refl
      (lacks_field 10 name _ refl named (whole_numbered number MOST_COUNT _ counted (omega arith) (whole_numbered easting MOST _ e (omega arith)
      (whole_number northing MOST n (omega arith)))));
  is_read = corner_read name number easting northing counted e n;
}

pub corner_back : (name : List ℕ) (number : ℕ) (corner : Position) → Lacks 10 name → number ≤ MOST_COUNT → IsCoordinate corner.e → IsCoordinate corner.n
    → IsLineOf (codes "corner,") (corner_of name number) (corner_line name number corner) (corner_from corner)
corner_back name number corner named counted within_e within_n =
    let e = coordinate_number corner.e within_e in
    let n = coordinate_number corner.n within_n in
    let numbers : Position = record { e = pos e.0; n = pos n.0 } in
    let same : numbers ≡ corner = rw (← e.1, ← n.1) refl in
    subst (λ (own : Position). IsLineOf (codes "corner,") (corner_of name number) (corner_line name number own) (corner_from own)) same
    (corner_of_numbers name number e.0 n.0 named counted e.2 n.2)

-- ---- the line of a percent polygon
percent_read : (name : List ℕ) (row : PercentRow) → IsPercentWithin row
    → percent_of name (codes "percent," ++ (name ++ 44 ∷ (decimal row.level ++ 44 ∷ (decimal row.kept ++ 44 ∷ (decimal row.corners ++ 44 ∷ decimal row.area2))))) ≡ Some row
unfolding percent_of
percent_read name row within =
    then_some _ _ _ _ (name_back (codes "percent,") name _)
    (then_some _ _ _ _ (numbered_back MOST_LEVEL row.level _ within.level (omega arith))
    (then_some _ _ _ _ (numbered_back MOST_COUNT row.kept _ within.kept (omega arith))
    (then_some _ _ _ _ (numbered_back MOST_COUNT row.corners _ within.corners (omega arith))
    (then_some _ _ _ _ (number_back MOST row.area2 within.area2 (omega arith)) refl))))

pub percent_back : (name : List ℕ) (row : PercentRow) → Lacks 10 name → IsPercentWithin row → IsLineOf (codes "percent,") (percent_of name) (percent_line name row) row
percent_back name row named within = record {
  said = name ++ 44 ∷ (decimal row.level ++ 44 ∷ (decimal row.kept ++ 44 ∷ (decimal row.corners ++ 44 ∷ decimal row.area2)));
  ended = five_parts (codes ",") (codes "percent,") name (decimal row.level) (decimal row.kept) (decimal row.corners) (decimal row.area2) (codes "\n");
  one_line = kind_whole (codes "percent,") _ refl
      (lacks_field 10 name _ refl named (whole_numbered row.level MOST_LEVEL _ within.level (omega arith) (whole_numbered row.kept MOST_COUNT _ within.kept (omega arith)
      (whole_numbered row.corners MOST_COUNT _ within.corners (omega arith) (whole_number row.area2 MOST within.area2 (omega arith))))));
  is_read = percent_read name row within;
}

-- ---- the line of an overlap
overlap_read : (animal range : List ℕ) (count fixes : ℕ) → count ≤ MOST_COUNT → fixes ≤ MOST_COUNT
    → overlap_of animal range (codes "overlap," ++ (animal ++ 44 ∷ (range ++ 44 ∷ (decimal count ++ 44 ∷ decimal fixes)))) ≡ Some (count, fixes)
unfolding overlap_of
overlap_read animal range count fixes c f =
    then_some _ _ _ _ (name_back (codes "overlap,") animal _)
    (then_some _ _ _ _ (behind_word range _)
    (then_some _ _ _ _ (behind_word (codes ",") _)
    (then_some _ _ _ _ (numbered_back MOST_COUNT count _ c (omega arith))
    (then_some _ _ _ _ (number_back MOST_COUNT fixes f (omega arith)) refl))))

pub overlap_back : (names : List (List ℕ)) (row : OverlapRow) → Lacks 10 (name_at names row.animal) → Lacks 10 (name_at names row.range) → IsOverlapWithin row
    → IsLineOf (codes "overlap,") (overlap_in names row.animal row.range) (overlap_line names row) (overlap_from row)
overlap_back names row animal range within = record {
  said = name_at names row.animal ++ 44 ∷ (name_at names row.range ++ 44 ∷ (decimal row.count ++ 44 ∷ decimal row.fixes));
  ended = name_parts (codes ",") (codes "overlap,") (name_at names row.animal) (name_at names row.range) (decimal row.count) (decimal row.fixes) (codes "\n");
  one_line = kind_whole (codes "overlap,") _ refl
      (lacks_field 10 (name_at names row.animal) _ refl animal (lacks_field 10 (name_at names row.range) _ refl range
      (whole_numbered row.count MOST_COUNT _ within.count (omega arith) (whole_number row.fixes MOST_COUNT within.fixes (omega arith)))));
  is_read = then_some _ _ _ _ (overlap_read (name_at names row.animal) (name_at names row.range) row.count row.fixes within.count within.fixes) refl;
}

-- ---- the last line
pub end_back : (animals : ℕ) → animals ≤ MOST_COUNT → IsLineOf (codes "end,") (last_of animals) (end_line animals) animals
unfolding end_of
end_back animals within = record {
  said = decimal animals;
  ended = refl;
  one_line = kind_whole (codes "end,") _ refl (whole_number animals MOST_COUNT within (omega arith));
  is_read = then_some _ _ _ _ (then_some _ _ _ _ (behind_word (codes "end,") _) (number_back MOST_COUNT animals within (omega arith)))
      (rw (eq-eqb animals animals refl) refl);
}
