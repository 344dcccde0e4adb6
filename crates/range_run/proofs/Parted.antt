-- A text that is written part after part.
use Rattle.std.proofs.Common.{◌≡◌, ℕ, List, [], ◌++◌, Option, Result, Ok, Err, length, take, drop, append_assoc, ap, subst, sym, ◌∙◌, take-append-drop}
use Rattle.std.specs.Prelude.{OnErr}
use Rattle.std.specs.Io.KnownBytes.{Appends, Keeps}
use Rattle.std.specs.List.{flat_map}
use Rattle.std.proofs.KnownBytes.{Appends-kept, Appends-nil, Appends-trans}
use Rattle.std.proofs.Math.Seq.{take-append_seam, take-length}
use Rattle.std.proofs.lemmas.List.{append-nil, nil_from_length}
use Rattle.range_run.specs.WrittenPrefix.{AppendsPrefix}

-- known bytes grew by the beginning of a text, of which this is the rest
abbrev pub WritesBefore : List ℕ → List ℕ → Option (List ℕ) → Option (List ℕ) → Type 0
WritesBefore rest text old new = (written : List ℕ) × Appends old new written × (written ++ rest ≡ text)

-- before anything is written the whole text is the rest
pub none_written : (rest text : List ℕ) (old : Option (List ℕ)) → rest ≡ text → WritesBefore rest text old old
none_written rest text old all = ([], Appends-nil old, all)

-- once the next part is written, what comes after it is the rest
pub part_written : (part rest text : List ℕ) (old mid new : Option (List ℕ)) → WritesBefore (part ++ rest) text old mid → Appends mid new part
    → WritesBefore rest text old new
part_written part rest text old mid new before appended =
    (before.0 ++ part, Appends-trans old mid new before.0 part before.1 appended, append_assoc before.0 part rest ∙ before.2)

any_error : {T E P : Type 0} (r : Result T E) → P → OnErr r P
any_error (Ok x) p = tt
any_error (Err e) p = p

-- of the next part a prefix was written
pub part_cut : {T E : Type 0} (part rest text : List ℕ) (old mid new : Option (List ℕ)) (r : Result T E) → WritesBefore (part ++ rest) text old mid
    → AppendsPrefix mid new part → OnErr r (AppendsPrefix old new text)
part_cut part rest text old mid new r before prefix =
    let written = before.0 ++ take prefix.0 part in
    let later = drop prefix.0 part ++ rest in
    let whole : written ++ later ≡ text =
    append_assoc before.0 (take prefix.0 part) later ∙ ap (λ l. before.0 ++ l)
    (sym (append_assoc (take prefix.0 part) (drop prefix.0 part) rest) ∙ ap (λ l. l ++ rest) (take-append-drop prefix.0 part)) ∙ before.2 in
    let beginning : written ≡ take (length written) text = sym (take-append_seam written later) ∙ ap (take (length written)) whole in
    any_error r (length written, subst (Appends old new) beginning (Appends-trans old mid new before.0 (take prefix.0 part) before.1 prefix.1))

-- no part is left
pub all_written : {P : Type 0} (bytes : P → List ℕ) (parts : List P) (text : List ℕ) (old new : Option (List ℕ))
    → WritesBefore (flat_map bytes parts) text old new → length parts ≡ 0 → Appends old new text
all_written bytes parts text old new before none =
    let rest : flat_map bytes parts ≡ [] = ap (flat_map bytes) (nil_from_length parts none) in
    subst (Appends old new) (sym (append-nil before.0) ∙ ap (λ l. before.0 ++ l) (sym rest) ∙ before.2) before.1

-- all of a text is a prefix of it, whatever a flush answers
pub flushed : {T E : Type 0} (text : List ℕ) (old mid new : Option (List ℕ)) (r : Result T E) → Appends old mid text → Keeps mid new
    → OnErr r (AppendsPrefix old new text)
flushed text old mid new r appended kept = any_error r (
  length text,
  subst (Appends old new) (sym (take-length text)) (Appends-kept old mid new text appended kept),
)
