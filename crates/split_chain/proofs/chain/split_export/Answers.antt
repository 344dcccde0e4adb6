use Rattle.std.proofs.Common.{inr, rules}
use Rattle.split_chain.proofs.Results.{if_err, if_ok}
use Rattle.split_chain.proofs.chain.split_export.Goals as goal

pub returns : goal.returns
returns g c = record {
  split = if_ok c.split_read.result (λ split are. (c.in_ok-export.export, c.in_ok-export.ensures.export, are.0)) c.split_read.ensures.split;
  order = if_ok c.split_read.result (λ split are. ((c.in_ok-export.export, c.in_ok-export.ensures.export, are.0), are.1.0)) c.split_read.ensures.split;
  records = if_ok c.split_read.result (λ split are. ((c.in_ok-export.export, c.in_ok-export.ensures.export, are.0), are.1.1)) c.split_read.ensures.split;
  refused = if_err c.split_read.result
      (λ refusal is. inr (record { export = c.in_ok-export.export; is_export = c.in_ok-export.ensures.export; is_refused = is })) c.split_read.ensures.refused;
}

pub returns-in_err-refuse_maker-clause-refused : goal.returns-in_err-refuse_maker-clause-refused
returns-in_err-refuse_maker-clause-refused g c = if_err c.from_residual-in_err-refuse_maker.result
    (λ refusal is. inr (record { export = c.in_ok-export.export; is_export = c.in_ok-export.ensures.export; is_refused = inr is })) (search rules)

pub returns-in_err-refuse_other_animals-clause-refused : goal.returns-in_err-refuse_other_animals-clause-refused
returns-in_err-refuse_other_animals-clause-refused g c = if_err c.from_residual-in_err-refuse_other_animals.result
    (λ refusal is. inr (record { export = c.in_ok-export.export; is_export = c.in_ok-export.ensures.export; is_refused = inr is })) (search rules)

pub returns-in_err-refuse_passed_over-clause-refused : goal.returns-in_err-refuse_passed_over-clause-refused
returns-in_err-refuse_passed_over-clause-refused g c = if_err c.from_residual-in_err-refuse_passed_over.result
    (λ refusal is. inr (record { export = c.in_ok-export.export; is_export = c.in_ok-export.ensures.export; is_refused = inr is })) (search rules)

pub returns-in_err-form-clause-refused : goal.returns-in_err-form-clause-refused
returns-in_err-form-clause-refused g c = if_err c.from_residual-in_err-form.result
    (λ refusal is. inr (record { export = c.in_ok-export.export; is_export = c.in_ok-export.ensures.export; is_refused = inr is })) (search rules)

pub returns-in_err-tell_table-clause-refused : goal.returns-in_err-tell_table-clause-refused
returns-in_err-tell_table-clause-refused g c = if_err c.from_residual-in_err-tell_table.result
    (λ refusal is. inr (record { export = c.in_ok-export.export; is_export = c.in_ok-export.ensures.export; is_refused = inr is })) (search rules)
