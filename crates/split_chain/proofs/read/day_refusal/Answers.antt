use Rattle.std.proofs.Common.{inl, inr, refl}
use Rattle.split_chain.proofs.read.day_refusal.Goals as goal

pub returns : goal.returns
returns c = λ grid. elim (c.record_refusal.ensures.day c.args.orders refl) [ inl memory ↦ cc (memory, grid) | inr time ↦ cc (time, grid) ]
