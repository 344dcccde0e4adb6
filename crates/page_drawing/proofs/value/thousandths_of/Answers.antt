use Rattle.std.proofs.Common.{◌*◌, ◌≤◌, ◌^◌, arith}
use Rattle.page_drawing.proofs.StepFacts.{sizes_most}
use Rattle.page_drawing.proofs.value.thousandths_of.Goals as goal

pub overflow_mul-result : goal.overflow_mul-result
overflow_mul-result c =
    let few : c.from.result ≤ 2 ^ 63 = omega arith in
    let most : c.from-2.result ≤ 5 * 10 ^ 14 = omega arith in
    record { fits = omega (arith, sizes_most c.from.result c.from-2.result few most) }

pub returns-clause-most : goal.returns-clause-most
returns-clause-most c =
    let few : c.from.result ≤ 2 ^ 63 = omega arith in
    let most : c.from-2.result ≤ 5 * 10 ^ 14 = omega arith in
    sizes_most c.from.result c.from-2.result few most
