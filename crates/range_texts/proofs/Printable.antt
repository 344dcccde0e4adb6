-- What ASCII prints is seen, and so is how an unseen character is written.
use Rattle.std.proofs.Common.{◌≡◌, ℕ, ◌+◌, ◌/◌, ◌%◌, ◌<◌, ◌≤◌, Bool, true, false, not, cond, ◌&&◌, ◌||◌, ◌==◌, nat_lt, List, [], ◌∷◌, ◌++◌, refl, sym, ap₂, subst, arith, zero, suc}
use Rattle.std.proofs.lemmas.Bool.{and_parts}
use Rattle.std.proofs.lemmas.Grind.{common_steps}
use Rattle.std.proofs.lemmas.Str.{encode_ascii}
use lib.Dec.{T}
use Rattle.std.specs.List.{list_all}
use Rattle.std.specs.Fmt.{decimal, digit_glyph, digits, digits_onto}
use Rattle.std.specs.Str.{all_scalars, encode_utf8_all}
use Rattle.std.specs.Char.{digit_char, is_control}
use Rattle.std.specs.Char.Escape.{escape_ascii, escape_default, escape_or, escape_unicode, hex_digit_at, short_escape}
use Rattle.ucd_table.proofs.Facts.{Stepped-below}
use Rattle.ucd_category.proofs.Computing.{ucd_category}
use Rattle.ucd_category.proofs.GeneralCategoryLemmas.{general_category_stepped}
use Rattle.ucd_category.specs.GeneralCategory.{general_category}
use Rattle.ucd_derived.proofs.Computing.{ucd_derived}
use Rattle.ucd_derived.proofs.BinaryLemmas.{is_default_ignorable_code_point_stepped}
use Rattle.ucd_derived.specs.Binary.{is_default_ignorable_code_point}
use Rattle.range_texts.specs.Seen.{is_printable, is_space_category, is_unseen, is_unseen_category}

-- a test of either answer of a choice
pub in_cond : {A : Type 0} (P : A → Type 0) (b : Bool) (x y : A) → (b ≡ true → P x) → (b ≡ false → P y) → P (cond b x y)
in_cond P true x y f g = f refl
in_cond P false x y f g = g refl

abbrev implied : Bool → Bool → Bool
implied a b = not a || b

pub never : {A : Type 0} → false ≡ true → A
never e = absurd (subst T (sym e) tt)

from_implied : (a b : Bool) → implied a b ≡ true → a ≡ true → b ≡ true
from_implied true b e h = e
from_implied false b e h = never h

-- of what ASCII prints no category is unseen, and none is a space but ` `
plain_category : (c : ℕ) → c < 127 → implied (is_printable c) (not (is_unseen_category (general_category c)) && (not (is_space_category (general_category c)) || (c == 32))) ≡ true
unfolding ucd_category
plain_category c small =
    Stepped-below general_category general_category_stepped (λ x v. implied (is_printable x) (not (is_unseen_category v) && (not (is_space_category v) || (x == 32)))) 127 refl c small

not_ignorable : (c : ℕ) → c < 127 → implied (is_printable c) (not (is_default_ignorable_code_point c)) ≡ true
unfolding ucd_derived
not_ignorable c small =
    Stepped-below is_default_ignorable_code_point is_default_ignorable_code_point_stepped (λ x v. implied (is_printable x) (not v)) 127 refl c small

-- none of the reasons not to be seen
unseen_by_none : (control category ignorable space here scalar : Bool) → control ≡ false → (not category && (not space || here)) ≡ true → not ignorable ≡ true → scalar ≡ true
    → not (control || category || ignorable || (space && not here) || not scalar) ≡ true
unseen_by_none false false false false here true a b c d = refl
unseen_by_none false false false true true true a b c d = refl
unseen_by_none false false false true false true a b c d = b
unseen_by_none false false true space here true a b c d = never c
unseen_by_none false true ignorable space here true a b c d = never b
unseen_by_none true category ignorable space here true a b c d = never (sym a)
unseen_by_none control category ignorable space here false a b c d = never d

low : (c : ℕ) → is_printable c ≡ true → c < 127
low c e = grind (arith, common_steps)

pub printable_is_seen : (c : ℕ) → is_printable c ≡ true → not (is_unseen c) ≡ true
printable_is_seen c e =
    let small = low c e in
    let uncontrolled : is_control c ≡ false = grind (arith, common_steps) in
    let known : all_scalars (c ∷ []) ≡ true = grind (arith, common_steps) in
    unseen_by_none (is_control c) (is_unseen_category (general_category c)) (is_default_ignorable_code_point c) (is_space_category (general_category c)) (c == 32)
    (all_scalars (c ∷ [])) uncontrolled (from_implied (is_printable c) _ (plain_category c small) e) (from_implied (is_printable c) _ (not_ignorable c small) e) known

-- bytes that ASCII prints are their own characters
pub printable_line : (text : List ℕ) → list_all is_printable text ≡ true → (encode_utf8_all text ≡ text) × (list_all (λ c. not (is_unseen c)) text ≡ true)
printable_line [] e = (refl, refl)
printable_line (c ∷ text) e =
    let parts = and_parts (is_printable c) (list_all is_printable text) e in
    let rest = printable_line text parts.1 in
    let small : c < 128 = grind (arith, common_steps, low c parts.0) in (
      ap₂ (λ (a b : List ℕ). a ++ b) (encode_ascii c small) rest.0,
      ap₂ (λ (a b : Bool). a && b) (printable_is_seen c parts.0) rest.1,
    )

printable_from : (c : ℕ) → 32 ≤ c → c ≤ 126 → is_printable c ≡ true
printable_from c above below = grind (arith, common_steps)

printable_digit_char : (d : ℕ) → d < 16 → is_printable (digit_char d) ≡ true
printable_digit_char d small = in_cond (λ x. is_printable x ≡ true) (nat_lt d 10) (48 + d) (87 + d)
    (λ e. printable_from (48 + d) (omega arith) (omega arith)) (λ e. printable_from (87 + d) (omega arith) (omega arith))

hex : (p c : ℕ) → is_printable (hex_digit_at p c) ≡ true
hex p c = printable_digit_char (c / p % 16) (omega arith)

-- ASCII prints all of a text
record Prints (text : List ℕ) : Type 0 where
  all : list_all is_printable text ≡ true

print_none : Prints []
print_none = record { all = refl }

print_cons : (c : ℕ) (text : List ℕ) → is_printable c ≡ true → Prints text → Prints (c ∷ text)
print_cons c text a b = record { all = ap₂ (λ (x y : Bool). x && y) a b.all }

print_hex : (p c : ℕ) (text : List ℕ) → Prints text → Prints (hex_digit_at p c ∷ text)
print_hex p c text rest = print_cons (hex_digit_at p c) text (hex p c) rest

-- a letter behind a backslash, if there is one
abbrev Letter : ℕ → Type 0
Letter x = nat_lt 0 x ≡ true → is_printable x ≡ true

short_letter : (c : ℕ) → Letter (short_escape c)
short_letter c =
    in_cond Letter (c == 9) _ _ (λ e h. refl) (λ e.
    in_cond Letter (c == 13) _ _ (λ e h. refl) (λ e.
    in_cond Letter (c == 10) _ _ (λ e h. refl) (λ e.
    in_cond Letter (c == 39) _ _ (λ e h. refl) (λ e.
    in_cond Letter (c == 34) _ _ (λ e h. refl) (λ e.
    in_cond Letter (c == 92) 92 0 (λ e h. refl) (λ e h. never h))))))

escape_or_prints : (c : ℕ) (other : List ℕ) → Prints other → Prints (escape_or c other)
escape_or_prints c other rest =
    in_cond Prints (nat_lt 0 (short_escape c)) _ _ (λ e. print_cons 92 _ refl (print_cons (short_escape c) _ (short_letter c e) print_none)) (λ e.
    in_cond Prints (nat_lt c 32) _ _ (λ below. rest) (λ above.
    in_cond Prints (nat_lt c 127) _ _ (λ below. let bounds : is_printable c ≡ true = grind (arith, common_steps) in print_cons c _ bounds print_none) (λ beyond. rest)))

-- a number behind `\u{`
open_brace : (text : List ℕ) → Prints text → Prints (92 ∷ 117 ∷ 123 ∷ text)
open_brace text rest = print_cons 92 _ refl (print_cons 117 _ refl (print_cons 123 text refl rest))

unicode_prints : (c : ℕ) → Prints (escape_unicode c)
unicode_prints c =
    let one = print_hex 1 c _ (print_cons 125 _ refl print_none) in
    let two = print_hex 0x10 c _ one in
    let three = print_hex 0x100 c _ two in
    let four = print_hex 0x1000 c _ three in
    let five = print_hex 0x1_0000 c _ four in
    in_cond Prints (nat_lt c 0x10) _ _ (λ e. open_brace _ one) (λ e.
    in_cond Prints (nat_lt c 0x100) _ _ (λ e. open_brace _ two) (λ e.
    in_cond Prints (nat_lt c 0x1000) _ _ (λ e. open_brace _ three) (λ e.
    in_cond Prints (nat_lt c 0x1_0000) _ _ (λ e. open_brace _ four) (λ e.
    in_cond Prints (nat_lt c 0x10_0000) _ _ (λ e. open_brace _ five) (λ e. open_brace _ (print_hex 0x10_0000 c _ five))))))

-- how Rust writes a character, and a byte
pub escape_default_prints : (c : ℕ) → list_all is_printable (escape_default c) ≡ true
escape_default_prints c = (escape_or_prints c (escape_unicode c) (unicode_prints c)).all

-- a byte as Rust writes it is bytes that ASCII prints
pub escape_ascii_prints : (b : ℕ) → list_all is_printable (escape_ascii b) ≡ true
escape_ascii_prints b =
    (escape_or_prints b _ (print_cons 92 _ refl (print_cons 120 _ refl (print_hex 0x10 b _ (print_hex 1 b _ print_none))))).all

digit_prints : (d : ℕ) → d < 10 → is_printable (digit_glyph false d) ≡ true
digit_prints d small = in_cond (λ x. is_printable x ≡ true) (nat_lt d 10) (48 + d) (87 + d)
    (λ e. printable_from (48 + d) (omega arith) (omega arith)) (λ e. printable_from (87 + d) (omega arith) (omega arith))

digits_print : (k n : ℕ) (more : List ℕ) → Prints more → Prints (digits_onto k 10 false n more)
digits_print zero n more rest = rest
digits_print (suc k) n more rest =
    let next = print_cons (digit_glyph false (n % 10)) more (digit_prints (n % 10) (omega arith)) rest in
    in_cond Prints (n / 10 == 0) _ _ (λ e. next) (λ e. digits_print k (n / 10) _ next)

-- the decimal digits of a number are bytes that ASCII prints
pub decimal_prints : (n : ℕ) → list_all is_printable (decimal n) ≡ true
unfolding digits
decimal_prints n = (digits_print 64 n [] print_none).all
