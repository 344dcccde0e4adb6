use Rattle.std.proofs.Common.{◌≤◌, ◌^◌, arith}
use Rattle.page_map.proofs.Products.{parts_most}
use Rattle.page_map.proofs.times.parts.Goals as goal

pub overflow_mul-result : goal.overflow_mul-result
overflow_mul-result c =
    let few : c.from.result ≤ 2 ^ 17 = omega arith in
    record { fits = omega (arith, parts_most c.args.length c.from.result c.requires.length few) }
