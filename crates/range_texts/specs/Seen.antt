-- Characters that are seen, and texts of one line.
use Rattle.std.specs.Prelude.{◌≡◌, ℕ, Bool, true, false, not, ◌&&◌, ◌||◌, ◌==◌, List, [], ◌∷◌, chars, encode_utf8_all, nat_le, if◌then◌else◌}
use Rattle.std.specs.List.{flat_map, list_all}
use Rattle.std.specs.Char.{is_control}
use Rattle.std.specs.Char.Escape.{escape_ascii, escape_default}
use Rattle.std.specs.Str.{all_scalars, is_utf8}
use Rattle.ucd_category.specs.GeneralCategory.{general_category}
use Rattle.ucd_category.specs.declared.GeneralCategory.{GeneralCategory}
use Rattle.ucd_category.specs.declared.GeneralCategory.TheVariants.{Format, LineSeparator, ParagraphSeparator, PrivateUse, SpaceSeparator, Surrogate, Unassigned}
use Rattle.ucd_derived.specs.Binary.{is_default_ignorable_code_point}

-- whether a category of Unicode has characters that show nothing of their own: they format their neighbours, end a
-- line or a paragraph, are of private use, or are no characters
abbrev pub is_unseen_category : GeneralCategory → Bool
is_unseen_category Format = true
is_unseen_category LineSeparator = true
is_unseen_category ParagraphSeparator = true
is_unseen_category PrivateUse = true
is_unseen_category Surrogate = true
is_unseen_category Unassigned = true
is_unseen_category _ = false

-- whether a category of Unicode is that of spaces
abbrev pub is_space_category : GeneralCategory → Bool
is_space_category SpaceSeparator = true
is_space_category _ = false

-- whether a character cannot be seen: a control character, one of a category that shows nothing, one that is shown as
-- nothing, a space that is not ` `, or no character
abbrev pub is_unseen : ℕ → Bool
is_unseen c = is_control c || is_unseen_category (general_category c) || is_default_ignorable_code_point c
    || (is_space_category (general_category c) && not (c == 32)) || not (all_scalars (c ∷ []))

-- a text is one line: each of its characters is seen
abbrev pub IsOneLine : List ℕ → Type 0
IsOneLine text = (cs : List ℕ) × (encode_utf8_all cs ≡ text) × (list_all (λ c. not (is_unseen c)) cs ≡ true)

-- a character as it is shown: itself where it is seen, else as Rust writes it; and a backslash twice where it has to
-- be told from these
abbrev pub shown_char : Bool → ℕ → List ℕ
shown_char doubles c = if doubles && c == 92 then 92 ∷ 92 ∷ [] else (if is_unseen c then escape_default c else c ∷ [])

-- a text as it is shown, character by character
abbrev pub shown_text : Bool → List ℕ → List ℕ
shown_text doubles text = encode_utf8_all (flat_map (shown_char doubles) (chars text))

-- a name as it is shown: as its text, or where it is not UTF-8 by its bytes as Rust writes them
abbrev pub shown_name : List ℕ → List ℕ
shown_name name = if is_utf8 name then shown_text true name else encode_utf8_all (flat_map escape_ascii name)

-- a byte that ASCII prints
abbrev pub is_printable : ℕ → Bool
is_printable b = nat_le 32 b && nat_le b 126
