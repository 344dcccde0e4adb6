-- What became of each record of a table, as it is written.
use Rattle.std.specs.Prelude.{ℕ, ◌+◌, List, [], ◌∷◌, codes, decimal, Option, Some, None, slice_index_or}
use Rattle.split_tracks.specs.declared.fate.Fate.{Fate}
use Rattle.split_tracks.specs.declared.fate.Fate.TheVariants.{InTrack, LeftOut}
use Rattle.split_record.specs.Lines.{reason_words, text_of_all}

-- the titles
abbrev pub titles : List (List ℕ)
titles = codes "record" ∷ codes "file" ∷ codes "second" ∷ codes "nanosecond" ∷ codes "reason" ∷ []

-- the name of the file of an animal; of none nothing
abbrev pub file_of : List (List ℕ) → Option ℕ → List ℕ
file_of names None = []
file_of names (Some animal) = slice_index_or names animal []

-- the line of a record: its number, the name of its animal's file, and when it was, if it is in the track, or why it is left out
abbrev pub fate_line : List (List ℕ) → ℕ → Fate → List (List ℕ)
fate_line names number (InTrack animal entry) =
    decimal number ∷ file_of names (Some animal) ∷ decimal entry.moment.second ∷ decimal entry.moment.nanosecond ∷ [] ∷ []
fate_line names number (LeftOut animal reason) = decimal number ∷ file_of names animal ∷ [] ∷ [] ∷ reason_words reason ∷ []

-- the lines of records, of which the first has this number
unfoldable pub fate_lines : List (List ℕ) → ℕ → List Fate → List (List (List ℕ))
fate_lines names number [] = []
fate_lines names number (fate ∷ others) = fate_line names number fate ∷ fate_lines names (number + 1) others

-- the text of what became of all records, of animals whose files have these names
abbrev pub fates_text : List (List ℕ) → List Fate → List ℕ
fates_text names fates = text_of_all (titles ∷ fate_lines names 1 fates)
