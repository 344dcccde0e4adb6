use Rattle.page_text.proofs.StyledFacts.{sign_behind}
use Rattle.page_text.proofs.style.styled.Goals as goal
use Rattle.page_text.proofs.style.styled.Goals.{then-is_some+in_ok-push_style_sign-2, else-is_some}

pub loop-character-preserved : goal.loop-character-preserved
loop-character-preserved c =
    (tt, tt, rw c.in_ok-push_style_sign.ensures (sign_behind c.loop-character.text.items c.seen.result c.loop-character.invariant.2))

pub returns : goal.returns
returns c =
    elim c.if-is_some.branch [
      | then-is_some+in_ok-push_style_sign-2 w ↦
          rw (w.text-is, w.in_ok-push_style_sign-2.ensures) (sign_behind c.loop-character.text.items 8230 c.loop-character.invariant.2)
      | else-is_some w ↦ rw w.text-is c.loop-character.invariant.2
    ]
