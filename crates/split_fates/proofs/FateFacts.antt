-- Fates, record for record.
use Rattle.std.proofs.Common.{◌≡◌, ◌+◌, ℕ, List, [], ◌∷◌, ◌++◌, Result, Ok, Err, refl, ap, append_assoc, append-nil}
use Rattle.split_reading.specs.declared.ledger.Row.{Row}
use Rattle.split_tracks.specs.declared.fate.Fate.{Fate}
use Rattle.split_fates.specs.declared.choice.Choice.{Choice}
use Rattle.split_fates.specs.declared.fates.FatesFault.{FatesFault}
use Rattle.split_fates.specs.Fates.{fate_of, fates_from, with_fate}

-- fates before others
abbrev pub with_fates : List Fate → Result (List Fate) FatesFault → Result (List Fate) FatesFault
with_fates done (Ok fates) = Ok (done ++ fates)
with_fates done (Err fault) = Err fault

assoc : (done : List Fate) (fate : Fate) (r : Result (List Fate) FatesFault) → with_fates done (with_fate fate r) ≡ with_fates (done ++ (fate ∷ [])) r
assoc done fate (Err fault) = refl
assoc done fate (Ok fates) = ap (λ (l : List Fate). Ok l) (simp append_assoc)

pub fates_more : (choice : Choice) (count : ℕ) (done : List Fate) (row : Row) (rows : List Row) (fate : Fate) → fate_of choice (count + 1) row ≡ Ok fate
    → with_fates done (fates_from choice count (row ∷ rows)) ≡ with_fates (done ++ (fate ∷ [])) (fates_from choice (count + 1) rows)
unfolding fates_from
fates_more choice count done row rows fate e = rw e (assoc done fate (fates_from choice (count + 1) rows))

pub fates_fail : (choice : Choice) (count : ℕ) (done : List Fate) (row : Row) (rows : List Row) (fault : FatesFault) → fate_of choice (count + 1) row ≡ Err fault
    → with_fates done (fates_from choice count (row ∷ rows)) ≡ Err fault
unfolding fates_from
fates_fail choice count done row rows fault e = rw e refl

pub fates_end : (choice : Choice) (count : ℕ) (done : List Fate) → with_fates done (fates_from choice count []) ≡ Ok done
unfolding fates_from
fates_end choice count done = rw (append-nil done) refl
