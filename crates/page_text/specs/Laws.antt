-- What holds of each text and number.
use Rattle.std.specs.Prelude.{◌≡◌, ℕ, zero, suc, ◌+◌, ◌*◌, ◌<◌, ◌≤◌, ◌==◌, Bool, true, false, not, ◌&&◌, ◌||◌, if◌then◌else◌, List, [], ◌∷◌, ◌++◌, codes}
use Rattle.std.specs.Char.{is_ascii_control}
use Rattle.page_text.specs.Cells.{cell, read_cell, shown_cell, text_of_cell, with_byte}
use Rattle.page_text.specs.Figures.{rounded}
use Rattle.page_text.specs.Shown.{attribute, escaped}

-- whether a byte is no control character, and neither begins nor ends markup or the value of an attribute
abbrev pub is_plain : ℕ → Bool
is_plain byte = not (is_ascii_control byte || byte == 60 || byte == 62 || byte == 34 || byte == 39)

-- whether a text begins with a word
abbrev pub begins : List ℕ → List ℕ → Bool
begins [] text = true
begins (own ∷ word) [] = false
begins (own ∷ word) (byte ∷ text) = own == byte && begins word text

-- whether a text begins with what stands behind the `&` of an entity
abbrev pub begins_entity : List ℕ → Bool
begins_entity text =
    begins (codes "amp;") text || begins (codes "lt;") text || begins (codes "gt;") text || begins (codes "quot;") text || begins (codes "#x27;") text

-- whether a text has no markup and no control character, and no `&` but those of entities
unfoldable pub is_harmless : List ℕ → Bool
is_harmless [] = true
is_harmless (byte ∷ others) = is_plain byte && (not (byte == 38) || begins_entity others) && is_harmless others

-- whatever a text is, what is shown of it is harmless
abbrev pub ShownTextIsHarmless : Type 0
ShownTextIsHarmless = (text : List ℕ) → is_harmless (escaped text) ≡ true

-- the byte that an entity stands for, of which this stands behind its `&`, and how many bytes that are; or the `&` itself
abbrev pub meaning : List ℕ → ℕ × ℕ
meaning text =
    if begins (codes "amp;") text then (38, 4) else if begins (codes "lt;") text then (60, 3) else if begins (codes "gt;") text then (62, 3)
    else if begins (codes "quot;") text then (34, 5) else if begins (codes "#x27;") text then (39, 5) else (38, 0)

-- the value of an attribute in quotes, up to the quote that ends it, and what stands behind that; without so many bytes
unfoldable pub read_attribute : ℕ → List ℕ → List ℕ × List ℕ
read_attribute behind [] = ([], [])
read_attribute (suc behind) (byte ∷ others) = read_attribute behind others
read_attribute zero (byte ∷ others) =
    if byte == 34 then ([], others)
    else if byte == 38 then with_byte (meaning others).0 (read_attribute (meaning others).1 others)
    else with_byte byte (read_attribute 0 others)

-- an attribute is read back, whatever its value is
abbrev pub AttributesAreReadBack : Type 0
AttributesAreReadBack = (value rest : List ℕ) → read_attribute 0 (attribute value ++ 34 ∷ rest) ≡ (value, rest)

-- whether nothing stands behind a cell, or what parts it from the next or ends the line
abbrev pub ends_cell : List ℕ → Bool
ends_cell [] = true
ends_cell (byte ∷ others) = byte == 44 || byte == 10

-- a cell is read as what it shows, and that comes to the text that it was made of, whatever stands behind it
abbrev pub CellsAreReadBack : Type 0
CellsAreReadBack =
    (text rest : List ℕ) → ends_cell rest ≡ true
    → (read_cell (cell text ++ rest) ≡ (shown_cell text, rest)) × (text_of_cell (shown_cell text) ≡ text)

-- a quotient that is rounded is at most half a unit off, and a half is rounded up
abbrev pub RoundedIsNearest : Type 0
RoundedIsNearest =
    (part whole : ℕ) → 0 < whole
    → (2 * (rounded part whole * whole) ≤ 2 * part + whole) × (2 * part + whole < 2 * (rounded part whole * whole) + 2 * whole)
