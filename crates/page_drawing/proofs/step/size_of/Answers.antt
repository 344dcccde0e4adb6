use Rattle.std.proofs.Common.{◌≤◌, ◌^◌, arith}
use Rattle.page_drawing.proofs.StepFacts.{power_most, power_some, size_most, size_some}
use Rattle.page_drawing.proofs.step.size_of.Goals as goal

pub overflow_mul-result : goal.overflow_mul-result
overflow_mul-result c =
    let most : c.pow.result ≤ 10 ^ 14 = rw (c.pow.ensures, c.from.ensures) (power_most c.args.step.place c.args.step.within) in
    record { fits = omega (arith, size_most c.first_digit.result c.pow.result c.first_digit.ensures.most most) }

pub returns-clause-some : goal.returns-clause-some
returns-clause-some c =
    let one : 1 ≤ c.pow.result = rw c.pow.ensures (power_some c.from.result) in
    size_some c.first_digit.result c.pow.result c.first_digit.ensures.some one

pub returns-clause-most : goal.returns-clause-most
returns-clause-most c =
    let most : c.pow.result ≤ 10 ^ 14 = rw (c.pow.ensures, c.from.ensures) (power_most c.args.step.place c.args.step.within) in
    size_most c.first_digit.result c.pow.result c.first_digit.ensures.most most
