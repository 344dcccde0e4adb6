-- Numbers where they first stand, one by one.
use Rattle.std.proofs.Common.{◌≡◌, ◌∙◌, ℕ, ◌==◌, Bool, true, false, cond, not, ◌||◌, List, [], ◌∷◌, ◌++◌, filter, refl, sym, ap, arith, inl, inr}
use Rattle.std.proofs.lemmas.Bool.{cases_Bool, eqb-true}
use Rattle.std.proofs.lemmas.List.{append-nil}
use Rattle.std.proofs.lemmas.List.Elements.{filter-append}
use Rattle.std.specs.List.{list_any}
use Rattle.split_said.specs.Order.{firsts}

-- whether a number is among others
abbrev pub is_among : List ℕ → ℕ → Bool
is_among others number = list_any (λ other. other == number) others

-- numbers but this one
abbrev without : ℕ → List ℕ → List ℕ
without number others = filter (λ other. not (other == number)) others

-- numbers of which some are another one stay among the rest
among_rest : (number other : ℕ) (numbers : List ℕ) → (number == other) ≡ false → is_among (without number numbers) other ≡ is_among numbers other
among_rest number other [] differ = refl
among_rest number other (first ∷ numbers) differ =
    elim (cases_Bool (first == number)) [
      | inl same ↦
          let is = eqb-true first number same in
          rw same (among_rest number other numbers differ ∙ sym (rw is (rw differ refl)))
      | inr apart ↦ rw apart (ap (λ b. (first == other) || b) (among_rest number other numbers differ))
    ]

-- a number that is left out adds nothing to the rest
gone : (first number : ℕ) (numbers : List ℕ) (b : Bool) → (first == number) ≡ true
    → first ∷ without first (cond b numbers (numbers ++ number ∷ [])) ≡ first ∷ without first numbers
gone first number numbers true same = refl
gone first number numbers false same = let other : (number == first) ≡ true = grind arith in
    ap (λ l. first ∷ l) (filter-append (λ other. not (other == first)) numbers (number ∷ []) ∙ (rw other (append-nil (without first numbers))))

-- and one that is not stands behind it
stays : (first number : ℕ) (numbers : List ℕ) (b : Bool) → (first == number) ≡ false
    → first ∷ without first (cond b numbers (numbers ++ number ∷ [])) ≡ cond b (first ∷ without first numbers) (first ∷ (without first numbers ++ number ∷ []))
stays first number numbers true apart = refl
stays first number numbers false apart = let other : (number == first) ≡ false = grind arith in
    ap (λ l. first ∷ l) (filter-append (λ other. not (other == first)) numbers (number ∷ []) ∙ (rw other refl))

-- one number more stands behind the others, if it is not among them
pub firsts-push : (numbers : List ℕ) (number : ℕ) → firsts (numbers ++ number ∷ []) ≡ cond (is_among (firsts numbers) number) (firsts numbers) (firsts numbers ++ number ∷ [])
firsts-push [] number = refl
firsts-push (first ∷ numbers) number =
    elim (cases_Bool (first == number)) [
      | inl same ↦ ap (λ l. first ∷ without first l) (firsts-push numbers number) ∙ (gone first number (firsts numbers) (is_among (firsts numbers) number) same ∙ sym (rw same refl))
      | inr apart ↦
          ap (λ l. first ∷ without first l) (firsts-push numbers number)
          ∙ (stays first number (firsts numbers) (is_among (firsts numbers) number) apart ∙ sym (rw apart (rw (among_rest first number (firsts numbers) apart) refl)))
    ]
