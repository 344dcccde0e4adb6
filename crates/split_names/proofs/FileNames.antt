-- What clean names and names with a number are.
use Rattle.std.proofs.Common.{◌≡◌, ◌≢◌, ℕ, zero, suc, ◌+◌, ◌-◌, ◌<◌, ◌≤◌, ◌^◌, ◌==◌, Bool, true, false, not, List, [], ◌∷◌, ◌++◌, length, map, take, inl, inr, refl, sym, ap, subst, arith, decimal, nat_lt, nat_le, slice_index, length-append, ◌⊎◌}
use Rattle.std.proofs.lemmas.Bool.{and_parts, cases_Bool, ne_eqb}
use Rattle.std.proofs.lemmas.Bool.Decides.{nat_tests}
use Rattle.std.proofs.lemmas.Fmt.{decimal_is_IsNumeral, length-decimal-le}
use Rattle.std.proofs.lemmas.List.{length-take}
use Rattle.std.proofs.lemmas.List.Folds.{list_all-append}
use Rattle.std.proofs.lemmas.Str.Parse.{digit_from_value}
use Rattle.std.specs.List.{list_all}
use Rattle.std.specs.Str.Parse.{AllDigits}
use Rattle.range_fixes.specs.Field.{is_name, is_name_byte}
use Rattle.split_names.specs.Clean.{clean, is_refused, no_device, plain, plain_at_edge, plain_at_end, plain_at_start}
use Rattle.split_names.specs.Cut.{cut, cut_place, is_inside}
use Rattle.split_names.specs.Device.{is_device}
use Rattle.split_names.specs.Laws.{IsFileName}
use Rattle.split_names.specs.Names.{ending, with_number}

abbrev is_free : ℕ → Bool
is_free b = not (is_refused b)

-- bytes begin, and not with a point
abbrev BeginsWell : List ℕ → Type 0
BeginsWell [] = ⊥
BeginsWell (b ∷ bytes) = b ≢ 46

-- a name whose bytes are free, which begins well and is short
pub record IsGood (name : List ℕ) : Type 0 where
  pub free : list_all is_free name ≡ true
  pub begins : BeginsWell name
  pub short : length name ≤ 32

-- ---- bytes
free_is_name_byte : (b : ℕ) → is_free b ≡ true → is_name_byte b ≡ true
free_is_name_byte b free =
    let least : nat_le 32 b ≡ true = elim (cases_Bool (nat_lt b 32)) [ inl low ↦ absurd (cc (rw low at free)) | inr high ↦ grind (arith, nat_tests, high) ] in
    rw (least, ne_eqb b 44 (λ e. cc (rw e at free)), ne_eqb b 34 (λ e. cc (rw e at free)), ne_eqb b 127 (λ e. cc (rw e at free))) refl

plain_free : (b : ℕ) → is_free (plain b) ≡ true
plain_free b = elim (cases_Bool (is_refused b)) [ inl is ↦ rw is refl | inr is_not ↦ rw is_not (rw is_not refl) ]

-- a byte at an edge is itself or `_`
edge_free : (b : ℕ) → is_free b ≡ true → is_free (plain_at_edge b) ≡ true
edge_free b free = elim (cases_Bool (b == 46)) [
  | inl point ↦ rw point refl
  | inr no_point ↦ elim (cases_Bool (b == 32)) [ inl blank ↦ rw (no_point, blank) refl | inr no_blank ↦ rw (no_point, no_blank) free ]
]

edge_no_point : (b : ℕ) → plain_at_edge b ≢ 46
edge_no_point b is = elim (cases_Bool (b == 46)) [
  | inl point ↦ let other = rw point at is in omega (arith, other)
  | inr no_point ↦ elim (cases_Bool (b == 32)) [
    | inl blank ↦ let other = rw (no_point, blank) at is in omega (arith, other)
    | inr no_blank ↦ let same = rw (no_point, no_blank) at is in cc (rw same at no_point)
  ]
]

-- ---- lists
all_plain : (bytes : List ℕ) → list_all is_free (map plain bytes) ≡ true
all_plain [] = refl
all_plain (b ∷ bytes) = rw (plain_free b) (all_plain bytes)

all_at_start : (bytes : List ℕ) → list_all is_free bytes ≡ true → list_all is_free (plain_at_start bytes) ≡ true
all_at_start [] all = refl
all_at_start (b ∷ bytes) all = let parts = and_parts (is_free b) (list_all is_free bytes) all in rw (edge_free b parts.0) parts.1

all_at_end : (bytes : List ℕ) → list_all is_free bytes ≡ true → list_all is_free (plain_at_end bytes) ≡ true
all_at_end [] all = refl
all_at_end (b ∷ []) all = let parts = and_parts (is_free b) true all in rw (edge_free b parts.0) refl
all_at_end (b ∷ c ∷ bytes) all =
    let parts = and_parts (is_free b) (list_all is_free (c ∷ bytes)) all in rw parts.0 (all_at_end (c ∷ bytes) parts.1)

all_taken : (n : ℕ) (bytes : List ℕ) → list_all is_free bytes ≡ true → list_all is_free (take n bytes) ≡ true
all_taken zero bytes all = refl
all_taken (suc n) [] all = refl
all_taken (suc n) (b ∷ bytes) all = let parts = and_parts (is_free b) (list_all is_free bytes) all in rw parts.0 (all_taken n bytes parts.1)

all_no_device : (bytes : List ℕ) → list_all is_free bytes ≡ true → list_all is_free (no_device bytes) ≡ true
all_no_device bytes all = elim (cases_Bool (is_device bytes)) [ inl is ↦ rw is all | inr is_not ↦ rw is_not all ]

begins_plain : (bytes : List ℕ) → bytes ≢ [] → BeginsWell (plain_at_start (map plain bytes))
begins_plain [] some = absurd (some refl)
begins_plain (b ∷ bytes) some = edge_no_point (plain b)

begins_no_device : (bytes : List ℕ) → BeginsWell bytes → BeginsWell (no_device bytes)
begins_no_device bytes begins = elim (cases_Bool (is_device bytes)) [ inl is ↦ rw is (λ e. cc e) | inr is_not ↦ rw is_not begins ]

begins_taken : (n : ℕ) (bytes : List ℕ) → 0 < n → BeginsWell bytes → BeginsWell (take n bytes)
begins_taken zero bytes some begins = absurd (omega (arith, some))
begins_taken (suc n) [] some begins = begins
begins_taken (suc n) (b ∷ bytes) some begins = begins

begins_at_end : (bytes : List ℕ) → BeginsWell bytes → BeginsWell (plain_at_end bytes)
begins_at_end [] begins = begins
begins_at_end (b ∷ []) begins = edge_no_point b
begins_at_end (b ∷ c ∷ bytes) begins = begins

length-plain_at_end : (bytes : List ℕ) → length (plain_at_end bytes) ≡ length bytes
length-plain_at_end [] = refl
length-plain_at_end (b ∷ []) = refl
length-plain_at_end (b ∷ c ∷ bytes) = ap suc (length-plain_at_end (c ∷ bytes))

-- ---- where a name is cut
place_least : (bytes : List ℕ) (back place : ℕ) → place ≤ cut_place bytes back place + back
unfolding cut_place
place_least bytes zero place = omega arith
place_least bytes (suc back) place = elim (cases_Bool (is_inside (slice_index bytes place))) [
  | inl is ↦ rw is (let more = place_least bytes back (place - 1) in omega (arith, more))
  | inr is_not ↦ rw is_not (omega arith)
]

place_most : (bytes : List ℕ) (back place : ℕ) → cut_place bytes back place ≤ place
unfolding cut_place
place_most bytes zero place = omega arith
place_most bytes (suc back) place = elim (cases_Bool (is_inside (slice_index bytes place))) [
  | inl is ↦ rw is (let less = place_most bytes back (place - 1) in omega (arith, less))
  | inr is_not ↦ rw is_not (omega arith)
]

cut_free : (most : ℕ) (bytes : List ℕ) → list_all is_free bytes ≡ true → list_all is_free (cut most bytes) ≡ true
unfolding cut
cut_free most bytes all = all_taken (cut_place bytes 3 most) bytes all

cut_begins : (most : ℕ) (bytes : List ℕ) → 3 < most → BeginsWell bytes → BeginsWell (cut most bytes)
unfolding cut
cut_begins most bytes enough begins =
    let least = place_least bytes 3 most in begins_taken (cut_place bytes 3 most) bytes (omega (arith, enough, least)) begins

cut_short : (most : ℕ) (bytes : List ℕ) → length (cut most bytes) ≤ most
unfolding cut
cut_short most bytes = let at_most = place_most bytes 3 most in omega (arith, at_most, length-take (cut_place bytes 3 most) bytes)

-- ---- names
pub clean_is_good : (name : List ℕ) → name ≢ [] → IsGood (clean name)
unfolding clean
clean_is_good name some =
    let begun = no_device (plain_at_start (map plain name)) in
    record {
      free = all_at_end (cut 32 begun) (cut_free 32 begun (all_no_device (plain_at_start (map plain name)) (all_at_start (map plain name) (all_plain name))));
      begins = begins_at_end (cut 32 begun) (cut_begins 32 begun (omega arith) (begins_no_device (plain_at_start (map plain name)) (begins_plain name some)));
      short = subst (λ n. n ≤ 32) (sym (length-plain_at_end (cut 32 begun))) (cut_short 32 begun);
    }

all_name_bytes : (bytes : List ℕ) → list_all is_free bytes ≡ true → list_all is_name_byte bytes ≡ true
all_name_bytes [] all = refl
all_name_bytes (b ∷ bytes) all =
    let parts = and_parts (is_free b) (list_all is_free bytes) all in rw (free_is_name_byte b parts.0) (all_name_bytes bytes parts.1)

begun_length : (bytes : List ℕ) → BeginsWell bytes → 0 < length bytes
begun_length [] begins = absurd begins
begun_length (b ∷ bytes) begins = omega arith

within : (n most : ℕ) → n ≤ most → nat_le n most ≡ true
within n most h = grind (arith, nat_tests)

some : (n : ℕ) → 0 < n → nat_lt 0 n ≡ true
some n h = grind (arith, nat_tests)

-- a good name names a file
pub good_names_file : (name : List ℕ) → IsGood name → IsFileName name
good_names_file name good =
    let names : is_name name ≡ true =
    rw (some (length name) (begun_length name good.begins), within (length name) 32 good.short) (all_name_bytes name good.free)
    in
    (names, good.free, λ is. (subst BeginsWell is good.begins) refl, λ is. (subst BeginsWell is good.begins) refl)

-- ---- numbers
digit_free : (d : ℕ) → 48 ≤ d → d ≤ 57 → is_free d ≡ true
digit_free d low high =
    let least : nat_lt d 32 ≡ false = grind (arith, nat_tests) in
    let differs : (n : ℕ) → (n < 48) ⊎ (57 < n) → (d == n) ≡ false = λ n off. ne_eqb d n (λ e. elim off [ inl l ↦ omega (arith, e, low, l) | inr m ↦ omega (arith, e, high, m) ]) in
    rw (
      least,
      differs 127 (inr (omega arith)),
      differs 60 (inr (omega arith)),
      differs 62 (inr (omega arith)),
      differs 58 (inr (omega arith)),
      differs 34 (inl (omega arith)),
      differs 47 (inl (omega arith)),
      differs 92 (inr (omega arith)),
      differs 124 (inr (omega arith)),
      differs 63 (inr (omega arith)),
      differs 42 (inl (omega arith)),
      differs 44 (inl (omega arith)),
    ) refl

digits_free : (digits : List ℕ) → AllDigits 10 digits → list_all is_free digits ≡ true
digits_free [] all = refl
digits_free (d ∷ digits) all =
    let range = digit_from_value d all.0 in
    rw (digit_free d (omega (arith, range)) (omega (arith, range))) (digits_free digits all.1)

begins_before : (bytes more : List ℕ) → BeginsWell bytes → BeginsWell (bytes ++ more)
begins_before [] more begins = absurd begins
begins_before (b ∷ bytes) more begins = begins

-- a good name with a number of 64 bits behind it is good
pub with_number_is_good : (name : List ℕ) (number : ℕ) → number < 2 ^ 64 → IsGood name → IsGood (with_number name number)
unfolding with_number
with_number_is_good name number small good =
    let numeral = decimal_is_IsNumeral number small in
    let digits : length (decimal number) ≤ 20 = length-decimal-le 20 number (omega arith) (omega (arith, small)) small in
    let most = 32 - length (ending number) in
    let long : length (ending number) ≡ suc (length (decimal number)) = refl in
    record {
      free = rw (list_all-append is_free (cut most name) (ending number), cut_free most name good.free) (digits_free (decimal number) numeral.0.1);
      begins = begins_before (cut most name) (ending number) (cut_begins most name (omega (arith, digits, long)) good.begins);
      short = omega (arith, cut_short most name, length-append (cut most name) (ending number), digits, long);
    }
