-- A record, a line on.
use Rattle.std.proofs.Common.{◌≡◌, ◌<◌, ◌+◌, ◌==◌, ℕ, false, List, [], ◌∷◌, length, Some, None, Ok, Err, refl, ap, subst, ◌∙◌, inl, inr, arith}
use Rattle.std.proofs.lemmas.Bool.{ne_eqb}
use Rattle.page_report.specs.Fields.{cut}
use Rattle.page_report.specs.Reading.{parts}
use Rattle.page_report.proofs.Parts.{IsFirst, cut_parts}
use Rattle.page_record.specs.Reading.{Found, IsFaultOf, IsRefusal, SoFar, all_read, at_line, read_from, with_line}
use Rattle.page_record.specs.declared.fault.LineFault.{LineFault}
use Rattle.page_record.specs.declared.fault.Wrong.{Wrong}

-- a line that is taken
pub goes_on : (number : ℕ) (so_far next : SoFar) (line : List ℕ) (others : List (List ℕ)) → 0 < length others → with_line so_far line ≡ Ok next
    → read_from number so_far (line ∷ others) ≡ read_from (number + 1) next others
unfolding read_from
goes_on number so_far next line others some is =
    let more : (length others == 0) ≡ false = ne_eqb (length others) 0 (λ none. omega (arith, some, none)) in
    rw (more, is) refl

-- a line with which something is wrong
pub stops : (number : ℕ) (so_far : SoFar) (line : List ℕ) (others : List (List ℕ)) (wrong : Wrong) → 0 < length others → with_line so_far line ≡ Err wrong
    → read_from number so_far (line ∷ others) ≡ Err (number, wrong)
unfolding read_from
stops number so_far line others wrong some is =
    let more : (length others == 0) ≡ false = ne_eqb (length others) 0 (λ none. omega (arith, some, none)) in
    rw (more, is) refl

-- the last part of a text
last_part : (number : ℕ) (so_far : SoFar) (last : List ℕ) → read_from number so_far (last ∷ []) ≡ all_read number so_far last
unfolding read_from
last_part number so_far last = refl

-- the same of a text, by its first line
first_of : (text line behind : List ℕ) → cut 10 text ≡ Some (line, behind) → (parts text ≡ line ∷ parts behind) × (0 < length (parts behind))
first_of text line behind is = subst (IsFirst text) is (cut_parts text)

pub line_taken : (number : ℕ) (so_far next : SoFar) (text line behind : List ℕ) (found : Found) → found ≡ read_from number so_far (parts text) → cut 10 text ≡ Some (line, behind)
    → with_line so_far line ≡ Ok next → found ≡ read_from (number + 1) next (parts behind)
line_taken number so_far next text line behind found was first is =
    let split = first_of text line behind first in
    was ∙ ap (read_from number so_far) split.0 ∙ goes_on number so_far next line (parts behind) split.1 is

pub line_wrong : (number : ℕ) (so_far : SoFar) (text line behind : List ℕ) (found : Found) (wrong : Wrong) → found ≡ read_from number so_far (parts text) → cut 10 text ≡ Some (line, behind)
    → with_line so_far line ≡ Err wrong → found ≡ Err (number, wrong)
line_wrong number so_far text line behind found wrong was first is =
    let split = first_of text line behind first in
    was ∙ ap (read_from number so_far) split.0 ∙ stops number so_far line (parts behind) wrong split.1 is

pub none_behind : (number : ℕ) (so_far : SoFar) (text : List ℕ) (found : Found) → found ≡ read_from number so_far (parts text) → cut 10 text ≡ None
    → found ≡ all_read number so_far text
none_behind number so_far text found was none =
    was ∙ ap (read_from number so_far) (subst (IsFirst text) none (cut_parts text)) ∙ last_part number so_far text

-- a line that is not taken is a refusal of all
pub refused : (number : ℕ) (so_far : SoFar) (text line behind : List ℕ) (found : Found) (fault : LineFault) → found ≡ read_from number so_far (parts text)
    → cut 10 text ≡ Some (line, behind) → IsFaultOf (with_line so_far line) fault → IsRefusal found (at_line number fault)
refused number so_far text line behind found fault was first (inl memory) = inl (ap (at_line number) memory)
refused number so_far text line behind found fault was first (inr (wrong, is, same)) =
    inr (number, wrong, line_wrong number so_far text line behind found wrong was first is, ap (at_line number) same)
