use Rattle.std.proofs.Common.{◌≡◌, ◌∙◌, ◌++◌, List, length, map, take, drop, inl, inr, subst}
use Rattle.std.proofs.Math.Seq.{take-append_seam}
use Rattle.split_chain.proofs.Results.{if_err, if_ok}
use Rattle.split_chain.specs.Chain.{AreFilesAt, AreTold}
use Rattle.split_export.specs.Files.{filed}
use Rattle.split_reading.specs.Words.{texts}
use Rattle.split_reading.specs.declared.ledger.Row.{Row}
use Rattle.split_chain.proofs.chain.split_sheet.Goals as goal

pub returns : goal.returns
returns c =
    let rows = c.place-projected.new.rows in
    let behind = drop (length rows) c.args.ledger.rows.items in
    let all : take c.args.ledger.rows.len (rows ++ behind) ≡ rows =
    subst (λ n. take n (rows ++ behind) ≡ rows) (c.place-projected.auto.rows ∙ c.deref_mut.ensures.len) (take-append_seam rows behind) in
    let are_placed = rw c.deref_mut.ensures.value at c.place-projected.ensures in
    record {
      split = if_ok c.split_placed.result (λ split made.
          let At : List Row → Type 0 = λ items. (
          files : AreFilesAt c.args.wish.now c.args.sheet.now.unit c.args.columns.now (texts c.args.ledger.names) items (map filed split.files.items) split.counts.items
          ) × AreTold files.are_files split.order.items split.records in
          let placed = subst At all made in (record { rows = rows; are_placed = are_placed; are_files = placed.0 }, placed.1)) c.split_placed.ensures.split;
      refused = if_err c.split_placed.result
          (λ refusal is. elim is [ inl off ↦ inl (record { rows = rows; are_placed = are_placed; is_off_grid = rw all at off }) | inr other ↦ inr other ])
          c.split_placed.ensures.refused;
    }
