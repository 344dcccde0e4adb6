use Rattle.std.proofs.Common.{ℕ, ◌<◌, length, take}
use Rattle.page_influence.specs.Layers.{IsSetAt}
use Rattle.page_influence.proofs.areas.set_areas.Given as goal

abbrev pub invariant-loop-place : goal.invariant-loop-place
invariant-loop-place l = (i : ℕ) → i < length l.areas → IsSetAt l.corners l.inner (take l.place l.fixes) l.fn.areas l.areas i
