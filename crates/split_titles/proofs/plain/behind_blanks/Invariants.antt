use Rattle.std.proofs.Common.{◌≡◌, length}
use Rattle.split_titles.specs.Plain.{behind_blanks}
use Rattle.split_titles.proofs.plain.behind_blanks.Given as goal

abbrev pub invariant-loop-first : goal.invariant-loop-first
invariant-loop-first l = behind_blanks l.rest ≡ behind_blanks l.fn.text

abbrev pub decreases-loop-first : goal.decreases-loop-first
decreases-loop-first l = length l.rest
