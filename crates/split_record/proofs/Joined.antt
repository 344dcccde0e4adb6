-- Texts that grow piece by piece.
use Rattle.std.proofs.Common.{◌≡◌, ℕ, List, [], ◌∷◌, ◌++◌, append_assoc}
use Rattle.std.proofs.lemmas.Grind.{flat_map-append}
use Rattle.std.proofs.lemmas.List.{append-nil}
use Rattle.split_record.specs.Lines.{text_of_all, text_of_line}

-- the first lines
pub head_joined : (none first second third all unit zone shift : List ℕ) (exports : List (List (List ℕ))) → first ≡ none ++ text_of_all exports → second ≡ first ++ unit
    → third ≡ second ++ zone → all ≡ third ++ shift → all ≡ none ++ (text_of_all exports ++ (unit ++ (zone ++ shift)))
head_joined none first second third all unit zone shift exports one two three four = rw (four, three, two, one) (simp append_assoc)

-- all lines
pub all_joined : (none first second third fourth fifth all : List ℕ) (head options said left tracks : List (List (List ℕ))) (tool : List (List ℕ))
    → none ≡ [] → first ≡ none ++ text_of_all head → second ≡ first ++ text_of_all options → third ≡ second ++ text_of_all said → fourth ≡ third ++ text_of_all left
    → fifth ≡ fourth ++ text_of_all tracks → all ≡ fifth ++ text_of_line tool
    → all ≡ text_of_all (head ++ options ++ said ++ left ++ tracks ++ tool ∷ [])
all_joined none first second third fourth fifth all head options said left tracks tool zero one two three four five six =
    rw (six, five, four, three, two, one, zero) (simp (flat_map-append, append_assoc, append-nil))
