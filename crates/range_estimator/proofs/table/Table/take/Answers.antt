use Rattle.std.proofs.Common.{sym, arith}
use Rattle.std.proofs.lemmas.List.{length_push}
use Rattle.range_plane.proofs.ForCallers.{corners_cover_the_set, covering_members_are_corners, sets_cover_their_members}
use Rattle.range_estimator.specs.declared.row.Row.{Row}
use Rattle.range_estimator.proofs.TableSteps.{estimate_pushed, fixes_pushed}
use Rattle.range_estimator.proofs.table.Table.take.Goals as goal

pub returns-clause-fixes : goal.returns-clause-fixes
returns-clause-fixes g c =
    let old = c.args.self.now in
    rw (c.push_reserved-2.ensures.items, c.push_reserved.ensures.points)
    (fixes_pushed old.rows.items old.columns.points _ c.args.fix.at c.requires.sound.count)

pub returns-clause-sound : goal.returns-clause-sound
returns-clause-sound g c =
    let old = c.args.self.now in
    let row : Row = record { second = c.args.fix.second; corners = c.corner_count-corners.result; area2 = c.area2.result } in
    let more = length_push old.rows.items row in record {
      count = rw (c.push_reserved-2.ensures.items, c.push_reserved.ensures.points)
          (omega (arith, c.requires.sound.count, more, length_push old.columns.points c.args.fix.at));
      counted = rw c.push_reserved-2.ensures.items (omega (arith, c.requires.sound.counted, c.add_point.ensures.points, more));
      estimate = rw (c.push_reserved-2.ensures.items, c.push_reserved.ensures.points)
          (estimate_pushed sets_cover_their_members covering_members_are_corners corners_cover_the_set old.rows.items old.columns.points row c.args.fix.at
          old.hull.corners c.add_point.new.hull.corners c.requires.sound.count c.requires.sound.estimate c.add_point.ensures.set
          (sym c.corner_count-corners.ensures) (sym c.area2.ensures));
    }
