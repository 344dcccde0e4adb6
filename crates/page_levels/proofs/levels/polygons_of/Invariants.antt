use Rattle.std.proofs.Common.{take}
use Rattle.std.specs.List.{AllZip}
use Rattle.range_plane.specs.Polygon.{IsPolygon}
use Rattle.page_levels.specs.Kept.{first_kept}
use Rattle.page_levels.proofs.levels.polygons_of.Given as goal

abbrev pub invariant-loop-level : goal.invariant-loop-level
invariant-loop-level l = AllZip (λ level polygon. IsPolygon (first_kept l.ranked level) polygon.items) (take l.level-index l.levels) l.polygons.items
