use Rattle.split_counts.proofs.Once.{sum_counted_once}
use Rattle.split_counts.proofs.laws.every_record_is_counted_once.Goals as goal

pub returns : goal.returns
returns c = sum_counted_once
