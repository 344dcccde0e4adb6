use Rattle.std.proofs.Common.{◌+◌, ◌∙◌, ap, arith}
use Rattle.range_numbers.proofs.DigitWeights.{AreBefore, products_fit, before_and_ending_fit, sums_fit, sum_is_weighted, last_weights_small, weights_are_before}
use Rattle.range_numbers.specs.Groups.{weighted_sum, last_weights}
use Rattle.range_numbers.proofs.groups.weighted_sum.Goals as goal

pub overflow_mul-before : goal.overflow_mul-before
overflow_mul-before c =
    let before : AreBefore c.weights_before.result = rw c.weights_before.ensures (weights_are_before c.args.digits c.requires.least c.requires.most) in
    products_fit 10000000 (omega arith) c.args.first c.weights_before.result c.requires.first before.1

pub overflow_mul-ending : goal.overflow_mul-ending
overflow_mul-ending c = products_fit 1000 (omega arith) c.args.last _ c.requires.last last_weights_small

pub overflow_add-result : goal.overflow_add-result
overflow_add-result c =
    let before : AreBefore c.weights_before.result = rw c.weights_before.ensures (weights_are_before c.args.digits c.requires.least c.requires.most) in
    before_and_ending_fit c.args.first c.args.last c.weights_before.result c.fits-first.0 c.fits-last.0 c.requires.first c.requires.last before

pub overflow_add-result-2 : goal.overflow_add-result-2
overflow_add-result-2 c =
    let before : AreBefore c.weights_before.result = rw c.weights_before.ensures (weights_are_before c.args.digits c.requires.least c.requires.most) in
    sums_fit c.args.first c.args.last c.weights_before.result c.fits-first.0 c.fits-last.0 c.requires.first c.requires.last before

pub returns : goal.returns
returns c =
    let before : AreBefore c.weights_before.result = rw c.weights_before.ensures (weights_are_before c.args.digits c.requires.least c.requires.most) in
    sum_is_weighted c.args.first c.args.last c.weights_before.result c.fits-first.0 c.fits-last.0 before.0
    ∙ ap (λ weights. weighted_sum weights c.args.first + weighted_sum last_weights c.args.last) c.weights_before.ensures
