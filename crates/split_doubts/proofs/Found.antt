-- What the far side gives, once it is known.
use Rattle.std.proofs.Common.{◌≡◌, sym, subst, List, Option, Some}
use Rattle.range_plane.specs.declared.scale.Scale.{Scale}
use Rattle.split_tracks.specs.declared.fate.Entry.{Entry}
use Rattle.split_doubts.specs.declared.axis.Axis.{Axis}
use Rattle.split_doubts.specs.declared.far.FarFixes.{FarFixes}
use Rattle.split_doubts.specs.declared.gap.Side.{Side}
use Rattle.split_doubts.specs.Far.{AreFound, AreOfSide}

pub found_at_side : {A : Type 0} (unit : Scale) (axis : Axis) (track : List Entry) (side : Side) (far : FarFixes A) (found : Option Side) → found ≡ Some side
    → AreOfSide unit axis track side far → AreFound unit axis track found (Some far)
found_at_side unit axis track side far found is all = subst (λ found. AreFound unit axis track found (Some far)) (sym is) all
