-- Names of UTF-8 stay UTF-8: no character is cut in two.
use Rattle.std.proofs.Common.{◌≡◌, ◌≢◌, ℕ, zero, suc, ◌+◌, ◌-◌, ◌/◌, ◌%◌, ◌<◌, ◌≤◌, ◌^◌, ◌==◌, true, false, inl, inr, List, [], ◌∷◌, ◌++◌, length, map, take, get_or, decimal, slice_index, nat_lt, nat_le, refl, sym, ap, subst, ◌∙◌, arith}
use Rattle.std.proofs.Math.Utf8.{encode, encodes, scalar, scalars}
use Rattle.std.proofs.lemmas.Bool.{and_parts, cases_Bool, eqb-true, ne_eqb}
use Rattle.std.proofs.lemmas.Bool.Decides.{nat_tests}
use Rattle.std.proofs.lemmas.Fmt.{IsAscii-decimal}
use Rattle.std.proofs.lemmas.List.{append-nil, get_or-append_right, map-append, take_all, take_more}
use Rattle.std.proofs.Math.ListN.{get_or-eq_default}
use Rattle.std.proofs.lemmas.Str.{IsCharBoundary-after_ascii, IsCharBoundary-at_seam, IsCharBoundary-before_ascii, IsCharBoundary-start, IsUtf8-append, IsUtf8-drop, IsUtf8-from_ascii, IsUtf8-nil, IsUtf8-take, encode_ascii, len_utf8_bounds, length-encode}
use Rattle.std.proofs.lemmas.Str.Ascii.{IsAscii-cons, IsAscii-nil}
use Rattle.std.specs.Str.{IsCharBoundary, IsUtf8}
use Rattle.split_names.specs.Clean.{clean, is_refused, no_device, plain, plain_at_edge, plain_at_end, plain_at_start}
use Rattle.split_names.specs.Cut.{cut, cut_place, is_inside}
use Rattle.split_names.specs.Device.{is_device}
use Rattle.split_names.specs.Names.{ending, with_number}

mark : IsUtf8 (95 ∷ [])
mark = IsUtf8-from_ascii (95 ∷ []) (IsAscii-cons 95 [] (omega arith) IsAscii-nil)

below : (b n : ℕ) → nat_lt b n ≡ true → b < n
below b n is = grind (arith, nat_tests, is)

not_below : (b n : ℕ) → nat_lt b n ≡ false → n ≤ b
not_below b n is = grind (arith, nat_tests, is)

-- ---- signs become `_`
-- a byte of a character that is not of ASCII stays
plain_high : (b : ℕ) → 128 ≤ b → plain b ≡ b
plain_high b high =
    let least : nat_lt b 32 ≡ false = grind (arith, nat_tests) in
    let differs : (n : ℕ) → n < 128 → (b == n) ≡ false = λ n low. ne_eqb b n (λ e. omega (arith, e, high, low)) in
    rw (
      least,
      differs 127 (omega arith),
      differs 60 (omega arith),
      differs 62 (omega arith),
      differs 58 (omega arith),
      differs 34 (omega arith),
      differs 47 (omega arith),
      differs 92 (omega arith),
      differs 124 (omega arith),
      differs 63 (omega arith),
      differs 42 (omega arith),
      differs 44 (omega arith),
    ) refl

plain_low : (b : ℕ) → b < 128 → plain b < 128
plain_low b low = elim (cases_Bool (is_refused b)) [ inl is ↦ rw is (omega arith) | inr is_not ↦ rw is_not low ]

high_stays : (c : ℕ) → 128 ≤ c → map plain (encode c) ≡ encode c
unfolding encode
high_stays c high = elim (cases_Bool (nat_lt c 128)) [
  | inl low ↦ absurd (omega (arith, high, below c 128 low))
  | inr one ↦ elim (cases_Bool (nat_lt c 2048)) [
    | inl two ↦ rw (one, two, plain_high (192 + c / 64) (omega arith), plain_high (128 + c % 64) (omega arith)) refl
    | inr more ↦ elim (cases_Bool (nat_lt c 65536)) [
      | inl three ↦
          rw (
            one,
            more,
            three,
            plain_high (224 + c / 4096) (omega arith),
            plain_high (128 + c / 64 % 64) (omega arith),
            plain_high (128 + c % 64) (omega arith),
          ) refl
      | inr four ↦
          rw (
            one,
            more,
            four,
            plain_high (240 + c / 262144) (omega arith),
            plain_high (128 + c / 4096 % 64) (omega arith),
            plain_high (128 + c / 64 % 64) (omega arith),
            plain_high (128 + c % 64) (omega arith),
          ) refl
    ]
  ]
]

plain_sign : (c : ℕ) → scalar c ≡ true → IsUtf8 (map plain (encode c))
plain_sign c is = elim (cases_Bool (nat_lt c 128)) [
  | inl low ↦
      let ascii = below c 128 low in
      subst (λ l. IsUtf8 (map plain l)) (sym (encode_ascii c ascii))
      (IsUtf8-from_ascii (plain c ∷ []) (IsAscii-cons (plain c) [] (plain_low c ascii) IsAscii-nil))
  | inr high ↦ subst IsUtf8 (sym (high_stays c (not_below c 128 high))) (c ∷ [], (rw is refl, append-nil (encode c)))
]

plain_signs : (cs : List ℕ) → scalars cs ≡ true → IsUtf8 (map plain (encodes cs))
plain_signs [] is = IsUtf8-nil
plain_signs (c ∷ cs) is =
    let parts = and_parts (scalar c) (scalars cs) is in
    subst IsUtf8 (sym (map-append plain (encode c) (encodes cs)))
    (IsUtf8-append (map plain (encode c)) (map plain (encodes cs)) (plain_sign c parts.0) (plain_signs cs parts.1))

plain_utf8 : (bytes : List ℕ) → IsUtf8 bytes → IsUtf8 (map plain bytes)
plain_utf8 bytes utf8 = subst (λ l. IsUtf8 (map plain l)) utf8.1.1 (plain_signs utf8.0 utf8.1.0)

-- ---- the ends
first_other : (b : ℕ) (bytes : List ℕ) → IsUtf8 (b ∷ bytes) → b < 128 → IsUtf8 (95 ∷ bytes)
first_other b bytes utf8 low =
    IsUtf8-append (95 ∷ []) bytes mark (IsUtf8-drop (b ∷ bytes) 1 utf8 (IsCharBoundary-after_ascii (b ∷ bytes) 0 utf8 (omega arith) low))

start_utf8 : (bytes : List ℕ) → IsUtf8 bytes → IsUtf8 (plain_at_start bytes)
start_utf8 [] utf8 = utf8
start_utf8 (b ∷ bytes) utf8 = elim (cases_Bool (b == 46)) [
  | inl point ↦ rw point (first_other b bytes utf8 (let is = eqb-true b 46 point in omega (arith, is)))
  | inr no_point ↦ elim (cases_Bool (b == 32)) [
    | inl blank ↦ rw (no_point, blank) (first_other b bytes utf8 (let is = eqb-true b 32 blank in omega (arith, is)))
    | inr no_blank ↦ rw (no_point, no_blank) utf8
  ]
]

at_last : (bytes : List ℕ) (b : ℕ) → plain_at_end (bytes ++ b ∷ []) ≡ bytes ++ plain_at_edge b ∷ []
at_last [] b = refl
at_last (x ∷ []) b = refl
at_last (x ∷ y ∷ bytes) b = ap (λ l. x ∷ l) (at_last (y ∷ bytes) b)

last_utf8 : (bytes : List ℕ) (n : ℕ) → n + 1 ≡ length bytes → IsUtf8 bytes → IsUtf8 (plain_at_end bytes)
last_utf8 bytes n is utf8 =
    let b = get_or bytes n 0 in
    let there : n < length bytes = omega (arith, is) in
    let whole : take n bytes ++ b ∷ [] ≡ bytes = sym (take_more bytes n 0 there) ∙ take_all (n + 1) bytes (omega (arith, is)) in
    let ended : plain_at_end bytes ≡ take n bytes ++ plain_at_edge b ∷ [] = ap plain_at_end (sym whole) ∙ at_last (take n bytes) b in
    let marked : b < 128 → IsUtf8 (take n bytes ++ 95 ∷ []) = λ low.
    IsUtf8-append (take n bytes) (95 ∷ []) (IsUtf8-take bytes n utf8 (IsCharBoundary-before_ascii bytes n there low)) mark
    in
    subst IsUtf8 (sym ended) (elim (cases_Bool (b == 46)) [
      | inl point ↦ rw point (marked (let value = eqb-true b 46 point in omega (arith, value)))
      | inr no_point ↦ elim (cases_Bool (b == 32)) [
        | inl blank ↦ rw (no_point, blank) (marked (let value = eqb-true b 32 blank in omega (arith, value)))
        | inr no_blank ↦ rw (no_point, no_blank) (subst IsUtf8 (sym whole) utf8)
      ]
    ])

end_utf8 : (bytes : List ℕ) → IsUtf8 bytes → IsUtf8 (plain_at_end bytes)
end_utf8 [] utf8 = utf8
end_utf8 (b ∷ bytes) utf8 = last_utf8 (b ∷ bytes) (length bytes) (omega arith) utf8

no_device_utf8 : (bytes : List ℕ) → IsUtf8 bytes → IsUtf8 (no_device bytes)
no_device_utf8 bytes utf8 = elim (cases_Bool (is_device bytes)) [ inl is ↦ rw is (IsUtf8-append (95 ∷ []) bytes mark utf8) | inr is_not ↦ rw is_not utf8 ]

-- ---- the cut
inside_is : (b : ℕ) → is_inside b ≡ true → (128 ≤ b) × (b < 192)
inside_is b is = let parts = and_parts (nat_le 128 b) (nat_lt b 192) is in (grind (arith, nat_tests, parts.0), below b 192 parts.1)

-- no character begins within one
no_boundary : (bytes : List ℕ) (i : ℕ) → is_inside (slice_index bytes i) ≡ true → ¬ (IsCharBoundary bytes i)
no_boundary bytes i inside boundary =
    let range = inside_is (slice_index bytes i) inside in
    elim (cases_Bool (nat_lt i (length bytes))) [
      | inl there ↦ let least = boundary.1 (below i (length bytes) there) range.0 in omega (arith, least, range)
      | inr past ↦ let none = get_or-eq_default bytes 0 (not_below i (length bytes) past) in omega (arith, none, range)
    ]

signs_utf8 : (cs : List ℕ) → scalars cs ≡ true → IsUtf8 (encodes cs)
signs_utf8 cs is = (cs, (is, refl))

-- no four bytes in a row are within characters
four_inside : (cs : List ℕ) (i : ℕ) → scalars cs ≡ true → ¬ ((k : ℕ) → k < 4 → is_inside (slice_index (encodes cs) (i + k)) ≡ true)
four_inside [] i is each = cc (each 0 (omega arith))
four_inside (c ∷ cs) i is each =
    let parts = and_parts (scalar c) (scalars cs) is in
    let len = length (encode c) in
    let bounds = len_utf8_bounds c in
    let long = length-encode c in
    elim (cases_Bool (nat_lt i len)) [
      | inl early ↦ elim (cases_Bool (i == 0)) [
        | inl start ↦ no_boundary (encodes (c ∷ cs)) 0 (subst (λ n. is_inside (slice_index (encodes (c ∷ cs)) n) ≡ true)
            (let zeroth : i + 0 ≡ 0 = omega (arith, eqb-true i 0 start) in zeroth) (each 0 (omega arith)))
            (IsCharBoundary-start (encodes (c ∷ cs)) (signs_utf8 (c ∷ cs) is))
        | inr behind ↦
            let some : i ≢ 0 = λ e. grind (arith, behind, e) in
            let within = below i len early in
            no_boundary (encodes (c ∷ cs)) len
            (subst (λ n. is_inside (slice_index (encodes (c ∷ cs)) n) ≡ true) (let seam : i + (len - i) ≡ len = omega (arith, within) in seam)
            (each (len - i) (omega (arith, within, some, bounds.1, long))))
            (IsCharBoundary-at_seam (encodes (c ∷ cs)) (encode c) (encodes cs) refl (signs_utf8 cs parts.1))
      ]
      | inr late ↦
          let past = not_below i len late in
          four_inside cs (i - len) parts.1 (λ k few. subst (λ b. is_inside b ≡ true)
          (get_or-append_right (encode c) (encodes cs) len (i + k) 0 refl (omega (arith, past))
          ∙ ap (λ n. slice_index (encodes cs) n) (let shifted : i + k - len ≡ i - len + k = omega (arith, past) in shifted)) (each k few))
    ]

-- and so it is of bytes of UTF-8
no_four : (bytes : List ℕ) (i : ℕ) → IsUtf8 bytes → ¬ ((k : ℕ) → k < 4 → is_inside (slice_index bytes (i + k)) ≡ true)
no_four bytes i utf8 each =
    four_inside utf8.0 i utf8.1.0 (λ k few. subst (λ l. is_inside (slice_index l (i + k)) ≡ true) (sym utf8.1.1) (each k few))

-- bytes from a place on, and one before them
one_more : (bytes : List ℕ) (place above : ℕ) → is_inside (slice_index bytes place) ≡ true
    → ((k : ℕ) → k < above → is_inside (slice_index bytes (place + 1 + k)) ≡ true) → (k : ℕ) → k < above + 1 → is_inside (slice_index bytes (place + k)) ≡ true
one_more bytes place above inside each zero few =
    subst (λ n. is_inside (slice_index bytes n) ≡ true) (let same : place ≡ place + 0 = omega arith in same) inside
one_more bytes place above inside each (suc k) few =
    subst (λ n. is_inside (slice_index bytes n) ≡ true) (let next : place + 1 + k ≡ place + suc k = omega arith in next) (each k (omega (arith, few)))

inside_behind_start : (bytes : List ℕ) (place : ℕ) → IsUtf8 bytes → is_inside (slice_index bytes place) ≡ true → 0 < place
inside_behind_start bytes zero utf8 inside = absurd (no_boundary bytes 0 inside (IsCharBoundary-start bytes utf8))
inside_behind_start bytes (suc place) utf8 inside = omega arith

-- where a text is cut no character is within
cut_outside : (bytes : List ℕ) → IsUtf8 bytes → (back above place : ℕ) → back + above ≡ 3
    → ((k : ℕ) → k < above → is_inside (slice_index bytes (place + 1 + k)) ≡ true) → is_inside (slice_index bytes (cut_place bytes back place)) ≡ false
unfolding cut_place
cut_outside bytes utf8 zero above place count each = elim (cases_Bool (is_inside (slice_index bytes place))) [
  | inl inside ↦ absurd (no_four bytes place utf8 (λ k few. one_more bytes place above inside each k (omega (arith, count, few))))
  | inr outside ↦ outside
]
cut_outside bytes utf8 (suc back) above place count each = elim (cases_Bool (is_inside (slice_index bytes place))) [
  | inl inside ↦
      let some = inside_behind_start bytes place utf8 inside in
      rw inside (cut_outside bytes utf8 back (above + 1) (place - 1) (omega (arith, count))
      (λ k few. subst (λ n. is_inside (slice_index bytes n) ≡ true) (let same : place + k ≡ place - 1 + 1 + k = omega (arith, some) in same)
      (one_more bytes place above inside each k few)))
  | inr outside ↦ rw outside outside
]

outside_high : (b : ℕ) → is_inside b ≡ false → 128 ≤ b → 192 ≤ b
outside_high b outside high = elim (cases_Bool (nat_lt b 192)) [
  | inl low ↦ let least : nat_le 128 b ≡ true = grind (arith, nat_tests, high) in absurd (cc (rw (least, low) at outside))
  | inr most ↦ not_below b 192 most
]

cut_utf8 : (most : ℕ) (bytes : List ℕ) → IsUtf8 bytes → IsUtf8 (cut most bytes)
unfolding cut
cut_utf8 most bytes utf8 =
    let place = cut_place bytes 3 most in
    let outside = cut_outside bytes utf8 3 0 most (omega arith) (λ k few. absurd (omega (arith, few))) in
    elim (cases_Bool (nat_lt place (length bytes))) [
      | inl there ↦
          let within = below place (length bytes) there in
          IsUtf8-take bytes place utf8 (omega (arith, within), λ here high. outside_high (slice_index bytes place) outside high)
      | inr past ↦ subst IsUtf8 (sym (take_all place bytes (not_below place (length bytes) past))) utf8
    ]

-- ---- names
pub clean_utf8 : (name : List ℕ) → IsUtf8 name → IsUtf8 (clean name)
unfolding clean
clean_utf8 name utf8 =
    let begun = no_device (plain_at_start (map plain name)) in
    end_utf8 (cut 32 begun) (cut_utf8 32 begun (no_device_utf8 (plain_at_start (map plain name)) (start_utf8 (map plain name) (plain_utf8 name utf8))))

pub with_number_utf8 : (name : List ℕ) (number : ℕ) → number < 2 ^ 64 → IsUtf8 name → IsUtf8 (with_number name number)
unfolding with_number
with_number_utf8 name number small utf8 =
    IsUtf8-append (cut (32 - length (ending number)) name) (ending number) (cut_utf8 (32 - length (ending number)) name utf8)
    (IsUtf8-from_ascii (ending number) (IsAscii-cons 95 (decimal number) (omega arith) (IsAscii-decimal number small)))
