-- The rings of lines, a line on.
use Rattle.std.proofs.Common.{◌≡◌, ◌<◌, ◌+◌, ◌==◌, ℕ, true, false, codes, List, [], ◌∷◌, length, if◌then◌else◌, Some, None, Result, Ok, Err, refl, ap, subst, ◌∙◌, arith}
use Rattle.std.specs.Str.{bytes_eq}
use Rattle.page_report.specs.Fields.{◌>>=◌, cut}
use Rattle.page_report.specs.Reading.{parts}
use Rattle.page_report.proofs.Parts.{IsFirst, cut_parts}
use Rattle.page_boundary.specs.Points.{point_in}
use Rattle.page_boundary.specs.Rings.{Ring, added, below_titles, boundary_in, rings_from, then_rings}

-- a line behind which a part stands
one_line : (rings : List Ring) (number : ℕ) (line : List ℕ) (others : List (List ℕ)) → 0 < length others
    → rings_from rings number (line ∷ others) ≡ then_rings number (point_in line >>= added rings) (λ more. rings_from more (number + 1) others)
unfolding rings_from
one_line rings number line [] some = absurd (omega (arith, some))
one_line rings number line (next ∷ behind) some = refl

-- the last part of a text
last_part : (rings : List Ring) (number : ℕ) (last : List ℕ) → rings_from rings number (last ∷ []) ≡ (if length last == 0 then Ok rings else Err number)
unfolding rings_from
last_part rings number last = refl

module _ (rings : List Ring) (number : ℕ) (text : List ℕ) (found : Result (List Ring) ℕ) (so_far : found ≡ rings_from rings number (parts text)) where
  first_of : (line behind : List ℕ) → cut 10 text ≡ Some (line, behind) → (parts text ≡ line ∷ parts behind) × (0 < length (parts behind))
  first_of line behind is = subst (IsFirst text) is (cut_parts text)

  line_read : (line behind : List ℕ) → cut 10 text ≡ Some (line, behind)
      → found ≡ then_rings number (point_in line >>= added rings) (λ more. rings_from more (number + 1) (parts behind))
  line_read line behind first =
      let split = first_of line behind first in
      so_far ∙ ap (rings_from rings number) split.0 ∙ one_line rings number line (parts behind) split.1

  pub line_taken : (line behind : List ℕ) (more : List Ring) → cut 10 text ≡ Some (line, behind) → (point_in line >>= added rings) ≡ Some more
      → found ≡ rings_from more (number + 1) (parts behind)
  line_taken line behind more first is =
      line_read line behind first ∙ ap (λ own. then_rings number own (λ more. rings_from more (number + 1) (parts behind))) is

  pub line_refused : (line behind : List ℕ) → cut 10 text ≡ Some (line, behind) → (point_in line >>= added rings) ≡ None → found ≡ Err number
  line_refused line behind first is =
      line_read line behind first ∙ ap (λ own. then_rings number own (λ more. rings_from more (number + 1) (parts behind))) is

  pub text_ends : cut 10 text ≡ None → found ≡ (if length text == 0 then Ok rings else Err number)
  text_ends none = so_far ∙ ap (rings_from rings number) (subst (IsFirst text) none (cut_parts text)) ∙ last_part rings number text

-- ---- the first line
pub titled : (text titles behind : List ℕ) → cut 10 text ≡ Some (titles, behind) → bytes_eq titles (codes "ring,easting,northing") ≡ true
    → boundary_in text ≡ rings_from [] 2 (parts behind)
titled text titles behind first is =
    let split = subst (IsFirst text) first (cut_parts text) in
    ap below_titles split.0 ∙ below (parts behind) split.1
  where
    below : (others : List (List ℕ)) → 0 < length others → below_titles (titles ∷ others) ≡ rings_from [] 2 others
    below [] some = absurd (omega (arith, some))
    below (next ∷ behind) some = rw is refl

pub untitled : (text titles behind : List ℕ) → cut 10 text ≡ Some (titles, behind) → bytes_eq titles (codes "ring,easting,northing") ≡ false
    → boundary_in text ≡ Err 1
untitled text titles behind first is =
    let split = subst (IsFirst text) first (cut_parts text) in
    ap below_titles split.0 ∙ below (parts behind)
  where
    below : (others : List (List ℕ)) → below_titles (titles ∷ others) ≡ Err 1
    below [] = refl
    below (next ∷ behind) = rw is refl

pub no_line : (text : List ℕ) → cut 10 text ≡ None → boundary_in text ≡ Err 1
no_line text none = ap below_titles (subst (IsFirst text) none (cut_parts text))
