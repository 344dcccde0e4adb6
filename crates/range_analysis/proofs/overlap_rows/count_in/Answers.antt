use Rattle.std.proofs.Common.{◌≡◌, sym, ◌∙◌, true}
use Rattle.std.proofs.lemmas.Bool.{or_left, or_right}
use Rattle.std.specs.Prelude.{◌||◌}
use Rattle.range_plane.proofs.ForCallers.{boxes_hold_what_is_covered, covered_is_decided}
use Rattle.range_analysis.specs.Overlaps.{are_apart_by_easting, are_apart_by_northing}
use Rattle.range_analysis.proofs.Boxes.{apart_overlap_is_none}
use Rattle.range_analysis.proofs.overlap_rows.count_in.Goals as goal
use Rattle.range_analysis.proofs.overlap_rows.count_in.Goals.{then-are_apart_by_easting, else-are_apart_by_easting}

pub returns-then-are_apart_by_northing : goal.returns-then-are_apart_by_northing
returns-then-are_apart_by_northing c =
    let animal = c.args.animal.now in
    let range = c.args.range.now in
    let a = animal.animal.extent in
    let b = range.animal.extent in
    let apart : (are_apart_by_easting a b || are_apart_by_northing a b) ≡ true = elim c.if-are_apart_by_easting.branch [
      | then-are_apart_by_easting w ↦ or_left (are_apart_by_easting a b) (are_apart_by_northing a b)
          (sym c.are_apart_by_easting.ensures ∙ w.if-are_apart_by_easting.true)
      | else-are_apart_by_easting w ↦ or_right (are_apart_by_easting a b) (are_apart_by_northing a b)
          (sym w.are_apart_by_northing.ensures ∙ (sym w.value-is ∙ c.if-are_apart_by_northing.true))
    ] in
    sym (apart_overlap_is_none boxes_hold_what_is_covered covered_is_decided animal.fixes.points range.fixes.points a b
    c.requires.animal.extent c.requires.range.extent apart)
