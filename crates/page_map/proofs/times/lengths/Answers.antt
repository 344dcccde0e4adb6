use Rattle.std.proofs.Common.{◌≤◌, ◌^◌, arith}
use Rattle.page_map.proofs.Products.{lengths_most, product_some}
use Rattle.page_map.proofs.times.lengths.Goals as goal

pub overflow_mul-result : goal.overflow_mul-result
overflow_mul-result c =
    let few : c.from.result ≤ 2 ^ 50 = omega arith in
    let most : c.from-2.result ≤ 2 ^ 50 = omega arith in
    record { fits = omega (arith, lengths_most c.from.result c.from-2.result few most) }

pub returns-clause-most : goal.returns-clause-most
returns-clause-most c =
    let few : c.from.result ≤ 2 ^ 50 = omega arith in
    let most : c.from-2.result ≤ 2 ^ 50 = omega arith in
    lengths_most c.from.result c.from-2.result few most

pub returns-clause-some : goal.returns-clause-some
returns-clause-some c = λ some more. product_some c.from.result c.from-2.result (omega (arith, some)) (omega (arith, more))
