use Rattle.std.proofs.Common.{FitsSigned, refl, rules}
use Rattle.std.specs.Int.{w128}
use Rattle.std.proofs.lemmas.Int.{to_z-of_z}
use Rattle.std.specs.BTreeSet.{contains}
use Rattle.std.specs.Ordering.{int_cmp}
use Rattle.split_pace.specs.Every.{piece_of}
use Rattle.split_pace.proofs.Pieces.{kept_more, left_more, nothing_more}
use Rattle.split_pace.proofs.filter.push_repeated.Goals as goal
use Rattle.split_pace.proofs.filter.push_repeated.Goals.{then-entry+in_ok-is_new+then-not-branch+in_ok-push, else-entry, else-entry-via-then-entry+in_ok-is_new+else-not-branch, else-entry-via-else-entry}

pub loop-entry-preserved : goal.loop-entry-preserved
loop-entry-preserved g c =
    let l = c.loop-entry in
    let before = c.args.left.now.items in
    let below = c.loop-entry-test.true in
    elim c.if-entry.branch [
      | then-entry+in_ok-is_new+then-not-branch+in_ok-push w ↦
          let fits : FitsSigned w128 w.piece_of.result = search rules in
          let both = left_more (piece_of c.args.length c.args.clock.now.zone) c.args.track.now l.entry-index _ w.piece_of.result below w.piece_of.ensures (contains int_cmp l.pieces) l.invariant.seen
          before l.left.items w.push.new.self.items (contains int_cmp w.is_new.new.pieces) _ w.if-entry.true l.invariant.records (simp to_z-of_z at w.in_ok-is_new.ensures.is_new) w.if-not-branch.true w.in_ok-push.ensures.items (simp to_z-of_z at w.in_ok-is_new.ensures.seen) in
          rw (w.left-is, w.pieces-is) (record { records = both.0; seen = both.1 })
      | else-entry w ↦
          elim w.else-entry.branch [
            | else-entry-via-then-entry+in_ok-is_new+else-not-branch v ↦
                let fits : FitsSigned w128 v.piece_of.result = search rules in
                let both = kept_more (piece_of c.args.length c.args.clock.now.zone) c.args.track.now l.entry-index _ v.piece_of.result below v.piece_of.ensures (contains int_cmp l.pieces) l.invariant.seen
                before l.left.items (contains int_cmp v.is_new.new.pieces) _ v.if-entry.true l.invariant.records (simp to_z-of_z at v.in_ok-is_new.ensures.is_new) v.if-not-branch.false (simp to_z-of_z at v.in_ok-is_new.ensures.seen) in
                rw (w.left-is, w.pieces-is, v.pieces-is) (record { records = both.0; seen = both.1 })
            | else-entry-via-else-entry v ↦
                let both = nothing_more (piece_of c.args.length c.args.clock.now.zone) c.args.track.now l.entry-index _ _ below refl (contains int_cmp l.pieces) l.invariant.seen before l.left.items v.if-entry.false l.invariant.records in
                rw (w.left-is, w.pieces-is, v.pieces-is) (record { records = both.0; seen = both.1 })
          ]
    ]
