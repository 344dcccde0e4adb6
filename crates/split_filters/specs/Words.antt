-- Words of tables.
use Rattle.std.specs.Prelude.{ℕ, Bool, ◌==◌, ◌||◌, ◌&&◌, if◌then◌else◌, codes, List, ◌∷◌}
use Rattle.std.specs.Borrow.{Bor}
use Rattle.std.specs.List.{list_any}
use Rattle.std.specs.Str.{bytes_eq}
use Rattle.split_titles.specs.Plain.{plain, trimmed}

-- whether a word comes to another, as titles do
unfoldable pub is_like : List ℕ → List ℕ → Bool
is_like word other = bytes_eq (plain word) (plain other)

-- whether a word comes to one of these
abbrev pub is_one_of : List (Bor (List ℕ)) → List ℕ → Bool
is_one_of words word = list_any (λ own. is_like own.now word) words

-- whether a word is the number of a sensor, or comes to its name
unfoldable pub is_sensor : List ℕ → List ℕ → List ℕ → Bool
is_sensor word number name = bytes_eq word number || is_like word name

-- the name of a sensor, for which Movebank has a number too
abbrev pub sensor_of : List ℕ → List ℕ
sensor_of word =
    if is_sensor word (codes "397") (codes "bird-ring") then codes "bird-ring"
    else if is_sensor word (codes "653") (codes "gps") then codes "gps"
    else if is_sensor word (codes "673") (codes "radio-transmitter") then codes "radio-transmitter"
    else if is_sensor word (codes "82798") (codes "argos-doppler-shift") then codes "argos-doppler-shift"
    else if is_sensor word (codes "2365682") (codes "natural-mark") then codes "natural-mark"
    else if is_sensor word (codes "3886361") (codes "solar-geolocator") then codes "solar-geolocator"
    else word

abbrev pub sensor_name : List ℕ → List ℕ
sensor_name word = sensor_of (trimmed word)

-- a word without LC before it
abbrev pub without_lc : List ℕ → List ℕ
without_lc (l ∷ c ∷ rest) = if (l == 76 || l == 108) && (c == 67 || c == 99) then rest else l ∷ c ∷ rest
without_lc word = word

-- whether a word comes to a class, or to its number with a point
unfoldable pub is_class : List ℕ → List ℕ → List ℕ → Bool
is_class word class number = is_like word class || is_like word number

-- the class of Argos that a word is whose part behind LC is this; any other word is a class itself
abbrev pub class_of : List ℕ → List ℕ → List ℕ
class_of bare word =
    if is_class bare (codes "3") (codes "3.0") then codes "3"
    else if is_class bare (codes "2") (codes "2.0") then codes "2"
    else if is_class bare (codes "1") (codes "1.0") then codes "1"
    else if is_class bare (codes "0") (codes "0.0") then codes "0"
    else if is_like bare (codes "A") then codes "A"
    else if is_like bare (codes "B") then codes "B"
    else if is_like bare (codes "Z") then codes "Z"
    else if is_like bare (codes "G") then codes "G"
    else word

abbrev pub class_name : List ℕ → List ℕ
class_name word = class_of (without_lc (trimmed word)) (trimmed word)

-- whether a word is a class of Argos, in whatever way it is written
abbrev pub is_known_class : List ℕ → Bool
is_known_class word =
    is_own (codes "3") || is_own (codes "2") || is_own (codes "1") || is_own (codes "0") || is_own (codes "A") || is_own (codes "B")
    || is_own (codes "Z") || is_own (codes "G")
  where
    is_own : List ℕ → Bool
    is_own own = bytes_eq (class_name word) own
