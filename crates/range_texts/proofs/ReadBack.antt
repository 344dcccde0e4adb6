-- A text is read back from what is shown of it, so that two texts are never shown alike.
use Rattle.std.proofs.Common.{◌≡◌, ℕ, ◌+◌, ◌*◌, ◌/◌, ◌%◌, ◌<◌, Bool, true, false, cond, ◌&&◌, ◌==◌, nat_lt, List, [], ◌∷◌, ◌++◌, drop, chars, encode_utf8_all, IsUtf8, refl, sym, ap, ap₂, ◌∙◌, arith, ltb-true, eqb-true}
use Rattle.std.proofs.Math.Nat.{div-eq_of_lt}
use Rattle.std.proofs.lemmas.Bool.{and_parts}
use Rattle.std.proofs.lemmas.Grind.{common_steps}
use Rattle.std.proofs.lemmas.Str.{digit_value-digit_char, encodes-chars, encodes_same, scalars-chars}
use Rattle.std.specs.List.{flat_map}
use Rattle.std.specs.Str.{all_scalars}
use Rattle.std.specs.Char.{digit_char, digit_value}
use Rattle.std.specs.Char.Escape.{escape_default, escape_unicode, hex_digit_at, short_escape}
use Rattle.range_texts.specs.Seen.{is_unseen, shown_char, shown_text}
use Rattle.range_texts.proofs.Printable.{in_cond, never}

-- no character: the first number beyond them
abbrev beyond : ℕ
beyond = 0x11_0000

-- a character that was read, and what follows it
abbrev found : ℕ → List ℕ → ℕ × List ℕ
found c rest = (c, rest)

-- hexadecimal digits up to `}`, where n is the number that those before them make: the number of all, and what follows
abbrev read_digits : ℕ → List ℕ → ℕ × List ℕ
read_digits n [] = (beyond, [])
read_digits n (x ∷ rest) = cond (x == 125) (n, rest) (read_digits (n * 16 + digit_value x) rest)

-- the character that a letter behind a backslash stands for
abbrev of_letter : ℕ → ℕ
of_letter x = cond (x == 116) 9 (cond (x == 114) 13 (cond (x == 110) 10 x))

-- what stands behind a backslash: the character that it is read as, and what follows
abbrev read_behind : List ℕ → ℕ × List ℕ
read_behind [] = (beyond, [])
read_behind (x ∷ rest) = cond (x == 117) (read_digits 0 (drop 1 rest)) (of_letter x, rest)

-- what is shown: the character that its beginning is read as, and what follows
abbrev read_char : List ℕ → ℕ × List ℕ
read_char [] = (beyond, [])
read_char (x ∷ rest) = cond (x == 92) (read_behind rest) (x, rest)

-- what is shown is read as the character c, whatever follows
record Reads (c : ℕ) (shown : List ℕ) : Type 0 where
  before : (rest : List ℕ) → read_char (shown ++ rest) ≡ found c rest

-- what is shown has the last digits of c, and those before them make n
record Ends (c n : ℕ) (shown : List ℕ) : Type 0 where
  before : (rest : List ℕ) → read_digits n (shown ++ rest) ≡ found c rest

-- one digit
digit_read : (n d : ℕ) (more : List ℕ) → d < 16 → read_digits n (digit_char d ∷ more) ≡ read_digits (n * 16 + d) more
digit_read n d more small =
    let no : (digit_char d == 125) ≡ false = grind (arith, common_steps) in
    rw no (ap (λ x. read_digits (n * 16 + x) more) (digit_value-digit_char d (omega arith)))

-- the digit at the place that is worth p, behind those of higher places
hex : (q p c : ℕ) (more : List ℕ) → c / q * 16 + c / p % 16 ≡ c / p → Ends c (c / p) more → Ends c (c / q) (hex_digit_at p c ∷ more)
hex q p c more e h = record {
  before = λ rest. digit_read (c / q) (c / p % 16) (more ++ rest) (omega arith)
      ∙ ap (λ n. read_digits n (more ++ rest)) e ∙ h.before rest;
}

-- behind the last digit
close : (c : ℕ) → Ends c (c / 1) (125 ∷ [])
close c = let whole : c / 1 ≡ c = omega arith in record { before = λ rest. ap (λ n. found n rest) whole }

-- behind `\u{`, where no digit of a higher place stands
open_brace : (q c : ℕ) (more : List ℕ) → c < q → Ends c (c / q) more → Reads c (92 ∷ 117 ∷ 123 ∷ more)
open_brace q c more l h =
    record { before = λ rest. ap (λ n. read_digits n (more ++ rest)) (sym (div-eq_of_lt l)) ∙ h.before rest }

-- a character by its number
unicode_reads : (c : ℕ) → c < beyond → Reads c (escape_unicode c)
unicode_reads c small =
    let one = hex 0x10 1 c _ (omega arith) (close c) in
    let two = hex 0x100 0x10 c _ (omega arith) one in
    let three = hex 0x1000 0x100 c _ (omega arith) two in
    let four = hex 0x1_0000 0x1000 c _ (omega arith) three in
    let five = hex 0x10_0000 0x1_0000 c _ (omega arith) four in
    let six = hex 0x100_0000 0x10_0000 c _ (omega arith) five in
    in_cond (Reads c) (nat_lt c 0x10) _ _ (λ e. open_brace 0x10 c _ (ltb-true c _ e) one) (λ e.
    in_cond (Reads c) (nat_lt c 0x100) _ _ (λ e. open_brace 0x100 c _ (ltb-true c _ e) two) (λ e.
    in_cond (Reads c) (nat_lt c 0x1000) _ _ (λ e. open_brace 0x1000 c _ (ltb-true c _ e) three) (λ e.
    in_cond (Reads c) (nat_lt c 0x1_0000) _ _ (λ e. open_brace 0x1_0000 c _ (ltb-true c _ e) four) (λ e.
    in_cond (Reads c) (nat_lt c 0x10_0000) _ _ (λ e. open_brace 0x10_0000 c _ (ltb-true c _ e) five) (λ e. open_brace 0x100_0000 c _ (omega arith) six)))))

-- the character of this number was read
named : (c n : ℕ) → (c == n) ≡ true → (rest : List ℕ) → found n rest ≡ found c rest
named c n e rest = ap (λ x. found x rest) (sym (eqb-true c n e))

-- a letter behind a backslash, if there is one
abbrev Letter : ℕ → ℕ → Type 0
Letter c x = nat_lt 0 x ≡ true → Reads c (92 ∷ x ∷ [])

-- a character that has such a letter
short_reads : (c : ℕ) → Letter c (short_escape c)
short_reads c =
    in_cond (Letter c) (c == 9) _ _ (λ e h. record { before = named c 9 e }) (λ e.
    in_cond (Letter c) (c == 13) _ _ (λ e h. record { before = named c 13 e }) (λ e.
    in_cond (Letter c) (c == 10) _ _ (λ e h. record { before = named c 10 e }) (λ e.
    in_cond (Letter c) (c == 39) _ _ (λ e h. record { before = named c 39 e }) (λ e.
    in_cond (Letter c) (c == 34) _ _ (λ e h. record { before = named c 34 e }) (λ e.
    in_cond (Letter c) (c == 92) 92 0 (λ e h. record { before = named c 92 e }) (λ e h. never h))))))

-- a character that is no backslash is read as it is
plain_reads : (c : ℕ) → (c == 92) ≡ false → Reads c (c ∷ [])
plain_reads c e = record { before = λ rest. rw e }

-- a character as Rust writes it, other than a backslash
escape_reads : (c : ℕ) → c < beyond → (c == 92) ≡ false → Reads c (escape_default c)
escape_reads c small other =
    in_cond (Reads c) (nat_lt 0 (short_escape c)) _ _ (short_reads c) (λ e.
    in_cond (Reads c) (nat_lt c 32) _ _ (λ below. unicode_reads c small) (λ above.
    in_cond (Reads c) (nat_lt c 127) _ _ (λ below. plain_reads c other) (λ past. unicode_reads c small)))

-- each character is read back from how it is shown
shown_reads : (c : ℕ) → c < beyond → Reads c (shown_char true c)
shown_reads c small =
    in_cond (Reads c) (c == 92) _ _ (λ e. record { before = named c 92 e }) (λ other.
    in_cond (Reads c) (is_unseen c) _ _ (λ unseen. escape_reads c small other) (λ seen. plain_reads c other))

-- a character is below this number
in_range : (c : ℕ) → all_scalars (c ∷ []) ≡ true → c < beyond
in_range c e = grind (arith, common_steps)

-- the first of some characters, and the others
first_of_all : (c : ℕ) (cs : List ℕ) → all_scalars (c ∷ cs) ≡ true → (c < beyond) × (all_scalars cs ≡ true)
first_of_all c cs e = let both = and_parts _ (all_scalars cs) e in (in_range c (ap (λ (b : Bool). b && true) both.0), both.1)

-- characters as they are shown
abbrev shown : List ℕ → List ℕ
shown cs = flat_map (shown_char true) cs

-- characters that are shown alike are the same
same_chars : (cs ds : List ℕ) → all_scalars cs ≡ true → all_scalars ds ≡ true → shown cs ≡ shown ds → cs ≡ ds
same_chars [] [] a b e = refl
same_chars [] (d ∷ ds) a b e =
    let small = (first_of_all d ds b).0 in
    let is : beyond ≡ d = ap (λ p. p.0) (ap read_char e ∙ (shown_reads d small).before (shown ds)) in absurd (omega arith)
same_chars (c ∷ cs) [] a b e =
    let small = (first_of_all c cs a).0 in
    let is : beyond ≡ c = ap (λ p. p.0) (ap read_char (sym e) ∙ (shown_reads c small).before (shown cs)) in absurd (omega arith)
same_chars (c ∷ cs) (d ∷ ds) a b e =
    let first = first_of_all c cs a in
    let second = first_of_all d ds b in
    let read = sym ((shown_reads c first.0).before (shown cs)) ∙ ap read_char e ∙ (shown_reads d second.0).before (shown ds) in
    ap₂ (λ (x : ℕ) (l : List ℕ). x ∷ l) (ap (λ p. p.0) read) (same_chars cs ds first.1 second.1 (ap (λ p. p.1) read))

-- two texts that are shown alike are the same text
pub shown_alike : (a b : List ℕ) → IsUtf8 a → IsUtf8 b → shown_text true a ≡ shown_text true b → a ≡ b
shown_alike a b u v e =
    sym (encodes-chars a u)
    ∙ ap encode_utf8_all (same_chars (chars a) (chars b) (scalars-chars a u) (scalars-chars b v) (encodes_same (shown (chars a)) (shown (chars b)) e))
    ∙ encodes-chars b v
