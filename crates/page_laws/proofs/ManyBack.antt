-- Lines that stand together, read back.
use Rattle.std.proofs.Common.{◌≡◌, ◌≤◌, ◌+◌, ◌==◌, ℕ, true, false, List, [], ◌∷◌, ◌++◌, length, map, Option, Ok, refl, ap, ◌∙◌, codes, arith, append_assoc, ne_eqb}
use Rattle.std.specs.List.{All, flat_map}
use Rattle.std.proofs.lemmas.List.Elements.{All-head, All-tail}
use Rattle.std.proofs.lemmas.List.Splits.{length-slice_split, slice_split_at}
use Rattle.range_report.specs.Report.{lines_from}
use Rattle.page_report.specs.Fields.{behind}
use Rattle.page_report.specs.Reading.{Found, begins, many, one, parts, put, stops, then_read}
use Rattle.page_laws.proofs.LinesBack.{IsLineOf}
use Rattle.page_laws.proofs.FieldsBack.{behind_word}

-- no line of one kind begins with another
abbrev pub Differ : List ℕ → List ℕ → Type 0
Differ other kind = (said : List ℕ) → begins other (kind ++ said) ≡ false

-- what is read, and then what is read behind
pub then_found : {A B : Type 0} (found : Found A) (more : A → List (List ℕ) → Found B) (own : A) (behind : List (List ℕ)) (all : Found B) → found ≡ Ok (own, behind)
    → more own behind ≡ all → then_read found more ≡ all
then_found found more own behind all is last = ap (λ found. then_read found more) is ∙ last

-- ---- one line
-- a line is the first part of a text, before the parts of what stands behind it
first_line : {A : Type 0} {kind : List ℕ} {read : List ℕ → Option A} {text : List ℕ} {own : A} (line : IsLineOf kind read text own) (rest : List ℕ)
    → parts (text ++ rest) ≡ (kind ++ line.said) ∷ parts rest
first_line {kind = kind} {text = text} line rest =
    let whole : text ++ rest ≡ (kind ++ line.said) ++ 10 ∷ rest = ap (λ t. t ++ rest) line.ended ∙ append_assoc (kind ++ line.said) (codes "\n") rest in
    ap parts whole ∙ slice_split_at (λ byte. byte == 10) (kind ++ line.said) 10 rest line.one_line refl

some_behind : (rest : List ℕ) → (length (parts rest) == 0) ≡ false
some_behind rest = ne_eqb (length (parts rest)) 0 (λ none. omega (arith, none, length-slice_split (λ byte. byte == 10) rest))

pub one_back : {A : Type 0} {kind : List ℕ} {read : List ℕ → Option A} {text : List ℕ} {own : A} (line : IsLineOf kind read text own) (rest : List ℕ)
    → one read (parts (text ++ rest)) ≡ Ok (own, parts rest)
one_back line rest = rw (first_line line rest, some_behind rest, line.is_read) refl

pub stops_at : {A : Type 0} {kind : List ℕ} {read : List ℕ → Option A} {text : List ℕ} {own : A} (line : IsLineOf kind read text own) (other rest : List ℕ) → Differ other kind
    → stops other (parts (text ++ rest)) ≡ true
stops_at line other rest differ = rw (first_line line rest, some_behind rest, differ line.said) refl

pub goes_on : {A : Type 0} {kind : List ℕ} {read : List ℕ → Option A} {text : List ℕ} {own : A} (line : IsLineOf kind read text own) (rest : List ℕ)
    → stops kind (parts (text ++ rest)) ≡ false
goes_on {kind = kind} line rest = rw (first_line line rest, some_behind rest, behind_word kind line.said) refl

-- ---- many lines
many_end : {A : Type 0} (kind : List ℕ) (read : ℕ → List ℕ → Option A) (before : ℕ) (lines : List (List ℕ)) → stops kind lines ≡ true
    → many kind read before lines ≡ Ok ([], lines)
unfolding many
many_end kind read before [] stop = refl
many_end kind read before (line ∷ behind) stop = rw stop refl

-- lines that all have the same number, or none
pub same_lines : {A : Type 0} (line : A → List ℕ) (number : ℕ) (xs : List A) → lines_from (λ _. line) number xs ≡ flat_map line xs
same_lines line number [] = refl
same_lines line number (x ∷ xs) = ap (λ l. line x ++ l) (same_lines line (number + 1) xs)

module _ {A B : Type 0} (kind : List ℕ) (read : ℕ → List ℕ → Option B) (line : ℕ → A → List ℕ) (said : A → B) (Good : A → Type 0) (most : ℕ)
    (each : (n : ℕ) (x : A) → n ≤ most → Good x → IsLineOf kind (read n) (line n x) (said x)) where
  pub stops_many : (other : List ℕ) (number : ℕ) (xs : List A) (rest : List ℕ) → Differ other kind → number ≤ most → All Good xs → stops other (parts rest) ≡ true
      → stops other (parts (lines_from line number xs ++ rest)) ≡ true
  stops_many other number [] rest differ few all stop = stop
  stops_many other number (x ∷ xs) rest differ few all stop =
      rw (append_assoc (line number x) (lines_from line (number + 1) xs) rest)
      (stops_at (each number x few (All-head Good x xs all)) other (lines_from line (number + 1) xs ++ rest) differ)

  pub many_back : (before : ℕ) (xs : List A) (rest : List ℕ) → before + length xs ≤ most → All Good xs → stops kind (parts rest) ≡ true
      → many kind read before (parts (lines_from line (before + 1) xs ++ rest)) ≡ Ok (map said xs, parts rest)
  unfolding many
  many_back before [] rest few all stop = many_end kind read before (parts rest) stop
  many_back before (x ∷ xs) rest few all stop =
      let others = lines_from line (before + 1 + 1) xs ++ rest in
      let own = each (before + 1) x (omega (arith, few)) (All-head Good x xs all) in
      let go : stops kind ((kind ++ own.said) ∷ parts others) ≡ false = rw (some_behind others, behind_word kind own.said) refl in
      rw (append_assoc (line (before + 1) x) (lines_from line (before + 1 + 1) xs) rest, first_line own others, go, own.is_read)
      (ap (put (said x ∷ [])) (many_back (before + 1) xs rest (omega (arith, few)) (All-tail Good x xs all) stop))
