-- Parts of a line and numbers, read back.
use Rattle.std.proofs.Common.{◌≡◌, ◌<◌, ◌≤◌, ◌^◌, ◌+◌, ◌==◌, ℕ, true, false, List, [], ◌∷◌, ◌++◌, length, drop, get_or, Option, Some, nat_lt, not, refl, ap, sym, ◌∙◌, decimal, arith, rules, tests, inl, inr}
use Rattle.std.specs.List.{All, list_all, position_or_len}
use Rattle.std.specs.Char.{is_ascii_digit}
use Rattle.std.specs.Str.{bytes_eq}
use Rattle.std.specs.Str.Parse.{AllDigits}
use Rattle.std.proofs.lemmas.Bool.{cases_lt, ne_eqb, not_from_false, or_left, or_right}
use Rattle.std.proofs.lemmas.Bool.Decides.{nat_tests}
use Rattle.std.proofs.lemmas.Fmt.{decimal_is_IsNumeral, decimal_digit, first_decimal}
use Rattle.std.proofs.lemmas.List.{drop-drop, drop_at, get_or_at, get_or_append_left, length-append, take_at}
use Rattle.std.proofs.lemmas.List.Elements.{All-append, All-cons, All-nil}
use Rattle.std.proofs.lemmas.List.Sums.{position_or_len_is}
use Rattle.std.proofs.lemmas.Slice.Eq.{bytes_eq-Decides}
use Rattle.std.proofs.lemmas.Str.Parse.{digit_from_value}
use Rattle.range_numbers.specs.Number.{is_number}
use Rattle.page_report.specs.Fields.{◌>>=◌, behind, cut, is_plain, number_up_to, numbered}

-- what is found, and then what is found by it
pub then_some : {A B : Type 0} (found : Option A) (more : A → Option B) (own : A) (all : Option B) → found ≡ Some own → more own ≡ all → found >>= more ≡ all
then_some found more own all is last = ap (λ found. found >>= more) is ∙ last

-- ---- bytes that a text does not have
abbrev pub Lacks : ℕ → List ℕ → Type 0
Lacks byte text = All (λ own. (own == byte) ≡ false) text

-- a part, a comma and another part
pub lacks_field : (byte : ℕ) (part rest : List ℕ) → (44 == byte) ≡ false → Lacks byte part → Lacks byte rest → Lacks byte (part ++ 44 ∷ rest)
lacks_field byte part rest comma own others =
    All-append (λ own. (own == byte) ≡ false) part (44 ∷ rest) own (All-cons (λ own. (own == byte) ≡ false) 44 rest comma others)

lacks_digits : (byte : ℕ) (digits : List ℕ) → byte < 48 → AllDigits 10 digits → Lacks byte digits
lacks_digits byte [] low all = All-nil (λ own. (own == byte) ≡ false)
lacks_digits byte (digit ∷ digits) low all =
    let range = digit_from_value digit all.0 in
    All-cons (λ own. (own == byte) ≡ false) digit digits (ne_eqb digit byte (λ e. omega (arith, low, range, e))) (lacks_digits byte digits low all.1)

pub lacks_number : (byte n : ℕ) → byte < 48 → n < 2 ^ 64 → Lacks byte (decimal n)
lacks_number byte n low small = lacks_digits byte (decimal n) low (decimal_is_IsNumeral n small).0.1

-- ---- words
bytes_same : (word : List ℕ) → bytes_eq word word ≡ true
bytes_same word = (bytes_eq-Decides word word).1 refl

pub behind_word : (word rest : List ℕ) → behind word (word ++ rest) ≡ Some rest
unfolding behind
behind_word word rest = rw (take_at word rest (length word) refl, drop_at word rest (length word) refl, bytes_same word) refl

first_at : (byte : ℕ) (text rest : List ℕ) → Lacks byte text → position_or_len (λ own. own == byte) (text ++ byte ∷ rest) ≡ length text
first_at byte text rest lacks =
    position_or_len_is (λ own. own == byte) (text ++ byte ∷ rest) (length text) 0 (omega (arith, length-append text (byte ∷ rest)))
    (λ k below. rw (get_or_append_left text (byte ∷ rest) 0 k below) (lacks k 0 below))
    (λ _. rw (get_or_at text byte rest 0 (length text) refl) (search (rules, tests)))

pub cut_at : (byte : ℕ) (text rest : List ℕ) → Lacks byte text → cut byte (text ++ byte ∷ rest) ≡ Some (text, rest)
unfolding cut
cut_at byte text rest lacks =
    let within : nat_lt (length text) (length (text ++ byte ∷ rest)) ≡ true = (let h = length-append text (byte ∷ rest) in grind (arith, nat_tests, h)) in
    let dropped : drop (length text + 1) (text ++ byte ∷ rest) ≡ rest = sym (drop-drop 1 (length text) (text ++ byte ∷ rest))
    ∙ ap (drop 1) (drop_at text (byte ∷ rest) (length text) refl) in
    rw (first_at byte text rest lacks, within, take_at text (byte ∷ rest) (length text) refl, dropped) refl

-- ---- numbers
plain_first : (text : List ℕ) → 48 < get_or text 0 0 → is_plain text ≡ true
plain_first [] first = refl
plain_first (digit ∷ digits) first = or_left (not (digit == 48)) (length digits == 0) (not_from_false (digit == 48) (ne_eqb digit 48 (λ e. omega (arith, first, e))))

plain_number : (n : ℕ) → n < 2 ^ 64 → is_plain (decimal n) ≡ true
plain_number n small = elim (cases_lt n 10) [
  | inl short ↦ rw (decimal_digit n short) (or_right (not (48 + n == 48)) true refl)
  | inr long ↦ plain_first (decimal n) (first_decimal n (omega (arith, long)) small)
]

are_digits : (digits : List ℕ) → AllDigits 10 digits → list_all is_ascii_digit digits ≡ true
are_digits [] all = refl
are_digits (digit ∷ digits) all =
    let range = digit_from_value digit all.0 in
    let one : is_ascii_digit digit ≡ true = search (rules, tests) in
    rw one (are_digits digits all.1)

is_number_decimal : (n : ℕ) → n < 2 ^ 64 → is_number (decimal n) ≡ true
is_number_decimal n small =
    let numeral = decimal_is_IsNumeral n small in
    let some : nat_lt 0 (length (decimal n)) ≡ true = (let h = numeral.0.0 in search (rules, tests)) in
    rw (some, are_digits (decimal n) numeral.0.1) refl

pub number_back : (most n : ℕ) → n ≤ most → most < 2 ^ 64 → number_up_to most (decimal n) ≡ Some n
unfolding number_up_to
number_back most n within fits =
    let small : n < 2 ^ 64 = omega (arith, within, fits) in
    let not_more : nat_lt most n ≡ false = grind (arith, nat_tests) in
    rw (plain_number n small, is_number_decimal n small, (decimal_is_IsNumeral n small).1, not_more) refl

-- a number, a comma, and what stands behind it
pub numbered_back : (most n : ℕ) (rest : List ℕ) → n ≤ most → most < 2 ^ 64 → numbered most (decimal n ++ 44 ∷ rest) ≡ Some (n, rest)
numbered_back most n rest within fits =
    then_some _ _ (decimal n, rest) _ (cut_at 44 (decimal n) rest (lacks_number 44 n (omega arith) (omega (arith, within, fits))))
    (then_some _ _ n _ (number_back most n within fits) refl)
