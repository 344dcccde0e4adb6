use Rattle.std.proofs.Common.{◌≡◌, ◌∙◌, ◌∷◌, [], ℕ, Bool, List, length, Option, None, true, false, eqb, refl, rules, tests}
use lib.IntN.{ℤ}
use Rattle.split_numbers.specs.declared.decimal.Measure.{Measure}
use Rattle.split_numbers.specs.Decimal.{measured_in}
use Rattle.split_numbers.proofs.decimal.measured_in.Goals as goal

of_nothing : (measure : Measure) (commas : Bool) (text : List ℕ) → length text ≡ 0 → ◌≡◌ {A = Option ℤ} None (measured_in measure commas text)
of_nothing measure commas [] e = refl
of_nothing measure commas (b ∷ bytes) e = cc e

pub returns-in_err-first : goal.returns-in_err-first
returns-in_err-first c = c.from_residual.ensures ∙ of_nothing c.args.measure c.args.commas c.args.text.now c.in_err-first.ensures.cases

pub returns-then-first-eq45 : goal.returns-then-first-eq45
returns-then-first-eq45 c =
    let test : eqb c.in_ok-first.first.now 45 ≡ true = search (rules, tests) in
    c.number_in.ensures ∙ rw (c.in_ok-first.ensures.cases.0, test) refl

pub returns-else-first-eq45 : goal.returns-else-first-eq45
returns-else-first-eq45 c =
    let test : eqb c.in_ok-first.first.now 45 ≡ false = search (rules, tests) in
    c.number_in-else-first-eq45.ensures ∙ rw (c.in_ok-first.ensures.cases.0, test) refl
