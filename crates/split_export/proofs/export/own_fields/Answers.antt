use Rattle.std.proofs.Common.{◌∙◌, ◌<◌, ◌∷◌, ◌++◌, [], ℕ, List, ap₂, subst, sym}
use Rattle.csv.specs.Records.{fields_of}
use Rattle.split_export.proofs.FieldFacts.{bytes_more, field_more}
use Rattle.split_export.proofs.export.own_fields.Goals as goal

pub loop-place-preserved : goal.loop-place-preserved
loop-place-preserved c =
    let fields = fields_of c.args.fields.now in
    let place = c.loop-place.place in
    bytes_more c.loop-place.own.items c.push.new.self.items c.in_ok-from_slice.field-0 c.in_ok-push.ensures.items
    ∙ (ap₂ (λ own (last : List ℕ). own ++ last ∷ []) c.loop-place.invariant (c.in_ok-from_slice.ensures.items ∙ c.field_at.ensures)
    ∙ sym (field_more fields place (subst (λ (end : ℕ). place < end) c.len-place-end.ensures c.loop-place-test.true)))
