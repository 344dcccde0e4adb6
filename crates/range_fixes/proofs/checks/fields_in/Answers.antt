use Rattle.std.proofs.Common.{arith}
use Rattle.range_fixes.proofs.CheckFacts.{past_last, split_by_index, wide}
use Rattle.range_fixes.proofs.checks.fields_in.Goals as goal

pub returns-in_err-get : goal.returns-in_err-get
returns-in_err-get c = rw c.from_residual.ensures (λ e. let past = past_last _ 0 c.in_err-get.ensures.value in let four = wide c.args.has_use in omega arith)

pub returns-in_err-get-2 : goal.returns-in_err-get-2
returns-in_err-get-2 c = rw c.from_residual-in_err-get-2.ensures (λ e. let past = past_last _ 1 c.in_err-get-2.ensures.value in let four =
    wide c.args.has_use in omega arith)

pub returns-in_err-get-3 : goal.returns-in_err-get-3
returns-in_err-get-3 c = rw c.from_residual-in_err-get-3.ensures (λ e. let past = past_last _ 2 c.in_err-get-3.ensures.value in let four =
    wide c.args.has_use in omega arith)

pub returns-in_err-get-4 : goal.returns-in_err-get-4
returns-in_err-get-4 c = rw c.from_residual-in_err-get-4.ensures (λ e. let past = past_last _ 3 c.in_err-get-4.ensures.value in let four =
    wide c.args.has_use in omega arith)

pub returns : goal.returns
returns c = split_by_index _ _ _ _ _ _ _ (omega arith) c.in_ok-get.ensures.value c.in_ok-get-2.ensures.value c.in_ok-get-3.ensures.value
    c.in_ok-get-4.ensures.value c.get-5.ensures.value
