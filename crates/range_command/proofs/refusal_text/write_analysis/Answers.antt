use Rattle.std.proofs.Common.{List, ℕ, ◌++◌, codes, ap, ap₂, sym, ◌∙◌}
use Rattle.std.proofs.Output.{has_written_of_eq}
use Rattle.range_analysis.specs.FaultText.{analyse_text}
use Rattle.range_texts.specs.Seen.{shown_text, shown_name}
use Rattle.range_command.specs.RefusalText.{files_text, name_of}
use Rattle.range_command.proofs.refusal_text.write_analysis.Goals as goal

-- the text by the names of the two files, by what is said of them, and by the animal
abbrev text : List ℕ → List ℕ → List ℕ → List ℕ → List ℕ
text first second told animal = first ++ (codes " and " ++ (second ++ (codes " " ++ (told ++ (codes ", " ++ animal)))))

pub returns-in-SameAnimal : goal.returns-in-SameAnimal
returns-in-SameAnimal g c plain ok =
    let files = c.args.files.now in
    let first = c.source_name-first.result in
    let second = c.source_name-second.result in
    let slice = c.as_slice.result.now in
    let said : List ℕ = codes "have the same animal" in
    let told = ap (λ (t : List ℕ). text (shown_text first.doubles first.text.now) (shown_text second.doubles second.text.now) t (shown_name slice)) (ap analyse_text c.in-SameAnimal.is) in
    let names = ap₂ (λ (x y : List ℕ). text x y said (shown_name slice)) c.source_name-first.ensures c.source_name-second.ensures in
    let animal = ap (λ (b : List ℕ). text (name_of files c.in-SameAnimal.first) (name_of files c.in-SameAnimal.second) said (shown_name b)) c.as_slice.ensures in
    let whole = sym (ap (λ fault. files_text files fault c.args.reason.now) c.in-SameAnimal.is) in
    has_written_of_eq _ _ _ _ _ (told ∙ names ∙ animal ∙ whole) (c.write-in-SameAnimal.ensures.writes plain ok)
