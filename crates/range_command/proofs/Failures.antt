-- From the last failure of a call to that of calls one after the other.
use Rattle.std.proofs.Common.{◌∙◌, inl, inr, Option, subst, sym}
use Rattle.std.specs.declared.io.Error.{Error}
use Rattle.range_command.specs.Outlet.{IsInterrupted, IsSteady}

-- two calls, one after the other
pub IsSteady-trans : (old mid new : Option (Option Error)) → IsSteady old mid → IsSteady mid new → IsSteady old new
IsSteady-trans old mid new (inl before) (inl after) = inl (after ∙ before)
IsSteady-trans old mid new (inr before) (inl after) = inr (subst IsInterrupted (sym after) before)
IsSteady-trans old mid new before (inr after) = inr after
