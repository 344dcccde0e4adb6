use Rattle.std.proofs.Common.{◌≡◌, false, take}
use Rattle.split_filters.specs.Words.{is_one_of}
use Rattle.split_filters.proofs.words.is_one_of.Given as goal

abbrev pub invariant-loop-own : goal.invariant-loop-own
invariant-loop-own l = is_one_of (take l.own-index l.words) l.word ≡ false
