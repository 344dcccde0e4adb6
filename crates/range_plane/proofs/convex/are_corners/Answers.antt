use Rattle.std.proofs.Common.{sym, ◌∙◌}
use Rattle.std.proofs.lemmas.Bool.{false≢true}
use Rattle.range_plane.proofs.Fan.{fan_of_polygon, polygon_of_fan}
use Rattle.range_plane.proofs.convex.are_corners.Goals as goal

pub returns-then-begin_with_least : goal.returns-then-begin_with_least
returns-then-begin_with_least c =
    let left = c.turn_left_throughout.ensures in (
      λ h. polygon_of_fan c.args.points.now (record { least = c.begin_with_least.ensures.0 c.if-begin_with_least.true; left = left.0 h }),
      λ p. left.1 (fan_of_polygon c.args.points.now p).left,
    )

pub returns-else-begin_with_least : goal.returns-else-begin_with_least
returns-else-begin_with_least c =
    (λ h. absurd (false≢true (sym c.if-begin_with_least.false ∙ h)), λ p. c.begin_with_least.ensures.1 (fan_of_polygon c.args.points.now p).least)
