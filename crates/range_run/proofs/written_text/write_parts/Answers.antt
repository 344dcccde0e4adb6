use Rattle.std.proofs.Common.{◌≡◌, ap, length, rules, subst}
use Rattle.std.specs.List.{flat_map}
use Rattle.std.specs.Io.KnownBytes.{Appends}
use Rattle.std.specs.Vec.Iter.{into_iter_items}
use Rattle.range_run.specs.WrittenPrefix.{AppendsPrefix}
use Rattle.range_run.proofs.Parted.{WritesBefore, all_written, flushed, none_written, part_cut, part_written}
use Rattle.range_run.proofs.written_text.write_parts.Goals as goal

pub loop-part-init : goal.loop-part-init
loop-part-init g c =
    none_written _ _ _ (ap (flat_map (λ part. part.items)) c.into_iter-part-iterator.ensures.into_iter_gives.0)

pub loop-part-preserved : goal.loop-part-preserved
loop-part-preserved g c =
    let contents = g.W.Write.contents in
    let text = flat_map (λ part. part.items) c.args.parts.items in
    let before = subst (λ l. WritesBefore l text (contents c.args.out.now) (contents c.loop-part.out))
    (ap (flat_map (λ part. part.items)) c.in-Some.ensures.steps.0) c.loop-part.invariant in
    let written = subst (Appends (contents c.loop-part.out) (contents c.write_whole.new.out)) c.deref.ensures.value c.in_ok-write_whole.ensures.whole in
    part_written _ _ _ _ _ _ before written

pub returns-in_err-write_whole-clause-prefix : goal.returns-in_err-write_whole-clause-prefix
returns-in_err-write_whole-clause-prefix g c =
    let contents = g.W.Write.contents in
    let text = flat_map (λ part. part.items) c.args.parts.items in
    let before = subst (λ l. WritesBefore l text (contents c.args.out.now) (contents c.loop-part.out))
    (ap (flat_map (λ part. part.items)) c.in-Some.ensures.steps.0) c.loop-part.invariant in
    let prefix = subst (AppendsPrefix (contents c.loop-part.out) (contents c.write_whole.new.out)) c.deref.ensures.value c.in_err-write_whole.ensures.prefix in
    part_cut _ _ _ _ _ _ _ before prefix

pub returns-clause-whole : goal.returns-clause-whole
returns-clause-whole g c =
    let none : length (into_iter_items c.loop-part.part-iterator) ≡ 0 = search rules in
    let whole = all_written _ _ _ _ _ c.loop-part.invariant none in
    search rules

pub returns-clause-prefix : goal.returns-clause-prefix
returns-clause-prefix g c =
    let none : length (into_iter_items c.loop-part.part-iterator) ≡ 0 = search rules in
    flushed _ _ _ _ _ (all_written _ _ _ _ _ c.loop-part.invariant none) c.flush.ensures.bytes
