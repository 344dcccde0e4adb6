-- What is one line: two lines joined, and texts as they are shown.
use Rattle.std.proofs.Common.{◌≡◌, ℕ, Bool, true, false, not, ◌&&◌, ◌==◌, List, [], ◌∷◌, ◌++◌, refl, ap, ap₂, ◌∙◌, if◌then◌else◌}
use Rattle.std.proofs.lemmas.List.Folds.{list_all-append}
use Rattle.std.proofs.lemmas.Str.{encodes-append}
use Rattle.std.specs.List.{flat_map, list_all}
use Rattle.std.specs.Fmt.{decimal}
use Rattle.std.specs.Str.{chars, encode_utf8_all, is_utf8}
use Rattle.std.specs.Char.Escape.{escape_ascii, escape_default}
use Rattle.range_texts.specs.Seen.{IsOneLine, is_printable, is_unseen, shown_text, shown_char, shown_name}
use Rattle.range_texts.proofs.Printable.{decimal_prints, escape_ascii_prints, escape_default_prints, printable_line}

abbrev AreSeen : List ℕ → Type 0
AreSeen cs = list_all (λ c. not (is_unseen c)) cs ≡ true

seen_append : (xs ys : List ℕ) → AreSeen xs → AreSeen ys → AreSeen (xs ++ ys)
seen_append xs ys a b = list_all-append (λ c. not (is_unseen c)) xs ys ∙ ap₂ (λ (x y : Bool). x && y) a b

-- two lines, one after the other, are one line
pub joined : (a b : List ℕ) → IsOneLine a → IsOneLine b → IsOneLine (a ++ b)
joined a b (xs, first, x_seen) (ys, second, y_seen) =
    (xs ++ ys, encodes-append xs ys ∙ ap₂ (λ (x y : List ℕ). x ++ y) first second, seen_append xs ys x_seen y_seen)

-- bytes that ASCII prints are one line
pub printable : (text : List ℕ) → list_all is_printable text ≡ true → IsOneLine text
printable text e = let both = printable_line text e in (text, both.0, both.1)

-- a number's decimal digits are one line
pub number : (n : ℕ) → IsOneLine (decimal n)
number n = printable (decimal n) (decimal_prints n)

-- a character that is seen is shown as it is, and another as Rust writes it
seen_as : (unseen : Bool) (c : ℕ) → is_unseen c ≡ unseen → AreSeen (if unseen then escape_default c else c ∷ [])
seen_as true c e = (printable_line (escape_default c) (escape_default_prints c)).1
seen_as false c e = ap (λ (b : Bool). not b && true) e

seen_char : (doubled : Bool) (c : ℕ) → AreSeen (if doubled then 92 ∷ 92 ∷ [] else (if is_unseen c then escape_default c else c ∷ []))
seen_char true c = (printable_line (92 ∷ 92 ∷ []) refl).1
seen_char false c = seen_as (is_unseen c) c refl

seen_chars : (doubles : Bool) (cs : List ℕ) → AreSeen (flat_map (shown_char doubles) cs)
seen_chars doubles [] = refl
seen_chars doubles (c ∷ cs) =
    seen_append (shown_char doubles c) (flat_map (shown_char doubles) cs) (seen_char (doubles && c == 92) c) (seen_chars doubles cs)

-- a text as it is shown is one line, whatever its bytes
pub shown_line : (doubles : Bool) (text : List ℕ) → IsOneLine (shown_text doubles text)
shown_line doubles text = (flat_map (shown_char doubles) (chars text), refl, seen_chars doubles (chars text))

seen_bytes : (bytes : List ℕ) → AreSeen (flat_map escape_ascii bytes)
seen_bytes [] = refl
seen_bytes (b ∷ bytes) =
    seen_append (escape_ascii b) (flat_map escape_ascii bytes) (printable_line (escape_ascii b) (escape_ascii_prints b)).1 (seen_bytes bytes)

name_as : (utf8 : Bool) (name : List ℕ) → IsOneLine (if utf8 then shown_text true name else encode_utf8_all (flat_map escape_ascii name))
name_as true name = shown_line true name
name_as false name = (flat_map escape_ascii name, refl, seen_bytes name)

-- a name as it is shown is one line, whatever its bytes
pub name_line : (name : List ℕ) → IsOneLine (shown_name name)
name_line name = name_as (is_utf8 name) name
