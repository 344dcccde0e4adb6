use Rattle.std.proofs.Common.{◌≡◌, ◌∙◌, length, map, ap, ap₂, inr, subst}
use Rattle.split_chain.proofs.Results.{all_ok, if_err}
use Rattle.split_chain.specs.Chain.{AreMade, every_filter, filtered, filtered_by, records_with, speed_filter}
use Rattle.split_export.specs.Export.{bytes_of}
use Rattle.split_export.specs.Files.{filed}
use Rattle.split_said.specs.Order.{animals_in_order}
use Rattle.split_chain.proofs.chain.make.Goals as goal

pub returns : goal.returns
returns c =
    let wish = c.args.look.now.wish.now in
    let choice = c.args.choice.now in
    let fates = c.in_ok-fated.fated.fates.items in
    let names = bytes_of c.in_ok-fated.fated.names.items in
    let slow = c.leave_out_by.new.fates.items in
    let first : slow ≡ filtered_by (speed_filter wish choice.unit) (length names) fates =
    c.in_ok-leave_out_by.ensures.done ∙ ap₂ (λ one all. filtered_by one (length (bytes_of all)) fates) c.speed_filter.ensures c.deref.ensures.value in
    let left : c.leave_out_by-2.new.fates.items ≡ filtered wish choice.unit (length names) fates =
    c.in_ok-leave_out_by-2.ensures.done
    ∙ (ap₂ (λ one all. filtered_by one (length (bytes_of all)) slow) c.every_filter.ensures c.deref-2.ensures.value
    ∙ ap (filtered_by (every_filter wish) (length names)) first) in
    record {
      made = all_ok c.make_filtered.result (λ made is order records. (
        record {
          fates = fates;
          are_fates = c.in_ok-fated.ensures.fates;
          names = names;
          are_names = c.in_ok-fated.ensures.names;
          are_made = subst (λ others. AreMade choice names others (map filed made.files.items) made.counts.items) left is;
        },
        (order ∙ ap (animals_in_order (length names)) left, records ∙ ap (records_with wish.lists_records names) left),
      )) c.make_filtered.ensures.made c.make_filtered.ensures.order c.make_filtered.ensures.records;
      refused = if_err c.make_filtered.result (λ refusal is. inr is) c.make_filtered.ensures.refused;
    }
