-- Overlaps of an animal.
use Rattle.std.proofs.Common.{◌≡◌, ◌+◌, ◌==◌, ℕ, zero, suc, true, false, List, [], ◌∷◌, ◌++◌, Ok, refl, ap, ◌∙◌}
use Rattle.page_report.specs.Reading.{IsRefusal, one, overlap_in, overlaps_from, put, ranges_from}
use Rattle.page_report.specs.declared.overlaps.Overlap.{Overlap}
use Rattle.page_report.specs.declared.reading.ReadFault.{ReadFault}
use Rattle.page_report.proofs.Many.{put-put}
use Rattle.page_report.proofs.Refusals.{first_refused, put_refused, then_found}

pub ranges_end : (names : List (List ℕ)) (animal range : ℕ) (lines : List (List ℕ)) → ranges_from names animal range zero lines ≡ Ok ([], lines)
unfolding ranges_from
ranges_end names animal range lines = refl

pub ranges_own : (names : List (List ℕ)) (animal range more : ℕ) (lines : List (List ℕ)) → (range == animal) ≡ true
    → ranges_from names animal range (suc more) lines ≡ ranges_from names animal (range + 1) more lines
unfolding ranges_from
ranges_own names animal range more lines own = rw own refl

pub ranges_more : (names : List (List ℕ)) (animal range more : ℕ) (xs : List Overlap) (lines behind : List (List ℕ)) (own : Overlap) → (range == animal) ≡ false
    → one (overlap_in names animal range) lines ≡ Ok (own, behind)
    → put xs (ranges_from names animal range (suc more) lines) ≡ put (xs ++ own ∷ []) (ranges_from names animal (range + 1) more behind)
unfolding ranges_from
ranges_more names animal range more xs lines behind own other is =
    rw other (ap (put xs) (then_found (one (overlap_in names animal range) lines) _ own behind _ is refl)
    ∙ put-put xs (own ∷ []) (ranges_from names animal (range + 1) more behind))

pub ranges_refused : (names : List (List ℕ)) (animal range more : ℕ) (xs : List Overlap) (lines : List (List ℕ)) (fault : ReadFault) → (range == animal) ≡ false
    → IsRefusal (one (overlap_in names animal range) lines) fault → IsRefusal (put xs (ranges_from names animal range (suc more) lines)) fault
unfolding ranges_from
ranges_refused names animal range more xs lines fault other refused =
    rw other (put_refused xs _ fault (first_refused (one (overlap_in names animal range) lines) _ fault refused))

pub overlaps_end : (names : List (List ℕ)) (ranges animal : ℕ) (lines : List (List ℕ)) → overlaps_from names ranges animal zero lines ≡ Ok ([], lines)
unfolding overlaps_from
overlaps_end names ranges animal lines = refl

pub overlaps_more : (names : List (List ℕ)) (ranges animal more : ℕ) (xs own : List Overlap) (lines behind : List (List ℕ))
    → ranges_from names animal 0 ranges lines ≡ Ok (own, behind)
    → put xs (overlaps_from names ranges animal (suc more) lines) ≡ put (xs ++ own) (overlaps_from names ranges (animal + 1) more behind)
unfolding overlaps_from
overlaps_more names ranges animal more xs own lines behind is =
    ap (put xs) (then_found (ranges_from names animal 0 ranges lines) _ own behind _ is refl)
    ∙ put-put xs own (overlaps_from names ranges (animal + 1) more behind)

pub overlaps_refused : (names : List (List ℕ)) (ranges animal more : ℕ) (xs : List Overlap) (lines : List (List ℕ)) (fault : ReadFault)
    → IsRefusal (ranges_from names animal 0 ranges lines) fault → IsRefusal (put xs (overlaps_from names ranges animal (suc more) lines)) fault
unfolding overlaps_from
overlaps_refused names ranges animal more xs lines fault refused =
    put_refused xs _ fault (first_refused (ranges_from names animal 0 ranges lines) _ fault refused)
