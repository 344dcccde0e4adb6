use Rattle.std.proofs.Common.{◌≡◌, ◌∙◌, ◌+◌, sym, ap, refl, drop, drop_of_length-le, get_or, arith}
use Rattle.std.proofs.lemmas.List.{drop_more}
use Rattle.split_table.specs.Quotes.{ended_with, ends_record, quote_fault_from, quote_fault_of, state_of}
use Rattle.split_table.proofs.QuoteFacts.{moved, not_quoted, opens, strays}
use Rattle.split_table.proofs.quotes.quote_fault.Goals as goal
use Rattle.split_table.proofs.quotes.quote_fault.Goals.{then-ends_record, else-ends_record}

pub loop-byte-preserved : goal.loop-byte-preserved
loop-byte-preserved c =
    let l = c.loop-byte in
    let text = c.args.text.now in
    let inv = l.invariant in
    let next = c.in-Some.next in
    let to : quote_fault_of c.args.separator text ≡ quote_fault_from c.args.separator (state_of next) (ended_with (ends_record l.place next) l.record) (drop (l.byte-index + 1) text) =
    inv.so_far ∙ (ap (quote_fault_from c.args.separator (state_of l.place) l.record) (drop_more text l.byte-index 0 c.loop-byte-test.true)
    ∙ moved c.args.separator l.record l.place next (get_or text l.byte-index 0) (drop (l.byte-index + 1) text) c.in-Some.ensures) in
    elim c.if-ends_record.branch [
      | then-ends_record w ↦ rw (w.place-is, w.record-is) (record {
        bound = omega (arith, inv.bound);
        so_far = to ∙ rw (sym c.ends_record.ensures ∙ w.if-ends_record.true) refl;
      })
      | else-ends_record w ↦ rw (w.place-is, w.record-is) (record {
        bound = omega (arith, inv.bound);
        so_far = to ∙ rw (sym c.ends_record.ensures ∙ w.if-ends_record.false) refl;
      })
    ]

pub returns-in_default : goal.returns-in_default
returns-in_default c =
    let l = c.loop-byte in
    let text = c.args.text.now in
    sym (l.invariant.so_far ∙ (ap (quote_fault_from c.args.separator (state_of l.place) l.record) (drop_more text l.byte-index 0 c.loop-byte-test.true)
    ∙ strays c.args.separator l.record l.place (get_or text l.byte-index 0) (drop (l.byte-index + 1) text) c.in_default.ensures))

pub returns-in-Quoted : goal.returns-in-Quoted
returns-in-Quoted c =
    let l = c.loop-byte in
    let text = c.args.text.now in
    sym (l.invariant.so_far ∙ (ap (quote_fault_from c.args.separator (state_of l.place) l.record) (drop_of_length-le text (omega (arith, c.loop-byte-test.false)))
    ∙ rw c.in-Quoted.is (opens c.args.separator l.record)))

pub returns-in_default-place : goal.returns-in_default-place
returns-in_default-place c =
    let l = c.loop-byte in
    let text = c.args.text.now in
    sym (l.invariant.so_far ∙ (ap (quote_fault_from c.args.separator (state_of l.place) l.record) (drop_of_length-le text (omega (arith, c.loop-byte-test.false)))
    ∙ not_quoted c.args.separator l.record l.place c.in_default-place.not-Quoted))
