-- Animals that stand together.
use Rattle.std.proofs.Common.{◌≡◌, ℕ, zero, suc, true, false, List, [], ◌∷◌, ◌++◌, Ok, refl, ap, ◌∙◌, codes}
use Rattle.page_report.specs.Reading.{IsRefusal, Said, animal_of, animals_from, put, stops}
use Rattle.page_report.specs.declared.reading.ReadFault.{ReadFault}
use Rattle.page_report.proofs.Many.{put-put}
use Rattle.page_report.proofs.Refusals.{first_refused, put_refused, then_found}

pub animals_stop : (more : ℕ) (lines : List (List ℕ)) → stops (codes "animal,") lines ≡ true → animals_from more lines ≡ Ok ([], lines)
unfolding animals_from
animals_stop zero lines stop = refl
animals_stop (suc more) lines stop = rw stop refl

pub animals_end : (lines : List (List ℕ)) → animals_from zero lines ≡ Ok ([], lines)
unfolding animals_from
animals_end lines = refl

pub animals_more : (xs : List Said) (more : ℕ) (lines behind : List (List ℕ)) (own : Said) → stops (codes "animal,") lines ≡ false → animal_of lines ≡ Ok (own, behind)
    → put xs (animals_from (suc more) lines) ≡ put (xs ++ own ∷ []) (animals_from more behind)
unfolding animals_from
animals_more xs more lines behind own go is =
    rw go (ap (put xs) (then_found (animal_of lines) _ own behind _ is refl) ∙ put-put xs (own ∷ []) (animals_from more behind))

pub animals_refused : (xs : List Said) (more : ℕ) (lines : List (List ℕ)) (fault : ReadFault) → stops (codes "animal,") lines ≡ false → IsRefusal (animal_of lines) fault
    → IsRefusal (put xs (animals_from (suc more) lines)) fault
unfolding animals_from
animals_refused xs more lines fault go refused =
    rw go (put_refused xs _ fault (first_refused (animal_of lines) _ fault refused))
