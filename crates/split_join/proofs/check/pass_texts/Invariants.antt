use Rattle.std.proofs.Common.{◌≡◌, take}
use Rattle.split_join.specs.Joined.{AreParts}
use Rattle.split_join.proofs.check.pass_texts.Given as goal

abbrev pub invariant-loop-text : goal.invariant-loop-text
invariant-loop-text l = record {
  parts : AreParts l.fn.whole l.whole (take l.text l.texts) l.counts.items;
  titles : l.whole.titles ≡ l.fn.whole.titles;
}
