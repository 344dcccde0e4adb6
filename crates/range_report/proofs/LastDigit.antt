-- The text of a number, from that of the number before it.
use Rattle.std.proofs.Common.{◌≡◌, ◌≢◌, inl, inr, ℕ, ◌+◌, ◌-◌, ◌/◌, ◌%◌, ◌^◌, ◌<◌, List, [], ◌∷◌, ◌++◌, length, set, length-append, append_assoc, ap, ◌∙◌, arith, codes, decimal}
use Rattle.std.proofs.Math.Seq.{set-append_seam}
use Rattle.std.proofs.lemmas.Bool.{cases_lt}
use Rattle.std.proofs.lemmas.Fmt.{decimal_digit, decimal_step}

-- a number and the one before it, which have all digits but the last in common
record SharesDigits (n : ℕ) : Type 0 where
  most : List ℕ
  before : decimal (n - 1) ≡ most ++ (48 + (n - 1) % 10) ∷ []
  number : decimal n ≡ most ++ (48 + n % 10) ∷ []

shares_digits : (n : ℕ) → n < 2 ^ 64 → n % 10 ≢ 0 → SharesDigits n
shares_digits n small other = elim (cases_lt n 10) [
  | inl short ↦
      let number : n ≡ n % 10 = omega arith in
      let before : n - 1 ≡ (n - 1) % 10 = omega arith in
      record {
        most = [];
        before = decimal_digit (n - 1) (omega arith) ∙ ap (λ d. (48 + d) ∷ []) before;
        number = decimal_digit n short ∙ ap (λ d. (48 + d) ∷ []) number;
      }
  | inr long ↦
      let most : (n - 1) / 10 ≡ n / 10 = omega arith in
      record {
        most = decimal (n / 10);
        before = decimal_step (n - 1) (omega arith) (omega arith) ∙ ap (λ k. decimal k ++ (48 + (n - 1) % 10) ∷ []) most;
        number = decimal_step n long small;
      }
]

-- the last two members, taken together
together : {A : Type 0} (xs ys : List A) (a c : A) → xs ++ (ys ++ a ∷ []) ++ c ∷ [] ≡ xs ++ ys ++ a ∷ c ∷ []
together xs ys a c = simp append_assoc

-- another member in place of the last but one
set_last_but_one : {A : Type 0} (xs ys : List A) (a b c : A) (i : ℕ) → i ≡ length (xs ++ (ys ++ a ∷ []) ++ c ∷ []) - 2
    → set (xs ++ (ys ++ a ∷ []) ++ c ∷ []) i b ≡ xs ++ (ys ++ b ∷ []) ++ c ∷ []
set_last_but_one xs ys a b c i last =
    let index : i ≡ length (xs ++ ys) = omega (arith, last, ap length (together xs ys a c), length-append (xs ++ ys) (a ∷ c ∷ [])) in
    rw (together xs ys a c, together xs ys b c, index) (set-append_seam (xs ++ ys) a (c ∷ []) b)

-- the number between a head and a comma, from the one before by the last digit
pub next_number : (head start : List ℕ) (n i : ℕ) → n < 2 ^ 64 → n % 10 ≢ 0 → i ≡ length start - 2 → start ≡ head ++ decimal (n - 1) ++ codes ","
    → set start i (48 + n % 10) ≡ head ++ decimal n ++ codes ","
next_number head start n i small other last e =
    let shared = shares_digits n small other in
    let split : start ≡ head ++ (shared.most ++ (48 + (n - 1) % 10) ∷ []) ++ codes "," = rw (e, shared.before) in
    rw (shared.number, split) (set_last_but_one head shared.most _ _ 44 i (last ∙ ap (λ l. length l - 2) split))
