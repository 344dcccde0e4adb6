use Rattle.std.proofs.Common.{◌≡◌, ℕ, ◌<◌, false, get_or, take, vec_len}
use Rattle.split_said.specs.Order.{animals_in_order}
use Rattle.split_said.proofs.Firsts.{is_among}
use Rattle.split_said.proofs.order.animals_in_order.Given as goal

abbrev pub invariant-loop-fate : goal.invariant-loop-fate
invariant-loop-fate l = record {
  count : vec_len l.met ≡ l.fn.animals;
  are_met : (animal : ℕ) → animal < l.fn.animals → get_or l.met.items animal false ≡ is_among l.order.items animal;
  so_far : l.order.items ≡ animals_in_order l.fn.animals (take l.fate-index l.fates);
}
