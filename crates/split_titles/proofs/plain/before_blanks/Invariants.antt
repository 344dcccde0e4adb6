use Rattle.std.proofs.Common.{◌≡◌, length, reverse}
use Rattle.split_titles.specs.Plain.{behind_blanks}
use Rattle.split_titles.proofs.plain.before_blanks.Given as goal

abbrev pub invariant-loop-last : goal.invariant-loop-last
invariant-loop-last l = behind_blanks (reverse l.rest) ≡ behind_blanks (reverse l.fn.text)

abbrev pub decreases-loop-last : goal.decreases-loop-last
decreases-loop-last l = length l.rest
