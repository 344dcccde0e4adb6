use Rattle.std.proofs.Common.{◌≡◌, true}
use Rattle.std.specs.List.{list_all}
use Rattle.page_text.specs.Styled.{is_styled}
use Rattle.page_text.proofs.style.styled.Given as goal

abbrev pub invariant-loop-character : goal.invariant-loop-character
invariant-loop-character l = (goal.iterator-loop-character).can_next l.rest × (goal.iterator-loop-character).is_finite l.rest × (list_all is_styled l.text.items ≡ true)
