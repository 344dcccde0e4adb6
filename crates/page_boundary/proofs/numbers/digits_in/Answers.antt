use Rattle.std.proofs.Common.{arith}
use Rattle.page_boundary.proofs.Digits.{value_found}
use Rattle.page_boundary.proofs.numbers.digits_in.Goals as goal

pub returns-clause-value : goal.returns-clause-value
returns-clause-value c = (value_found c.args.most c.args.text.now c.value_of.result c.requires (omega arith) c.value_of.ensures).0

pub returns-clause-bound : goal.returns-clause-bound
returns-clause-bound c = (value_found c.args.most c.args.text.now c.value_of.result c.requires (omega arith) c.value_of.ensures).1
