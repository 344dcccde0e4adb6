use Rattle.std.proofs.Common.{◌≡◌, [], ◌∷◌, ◌++◌, ◌+◌, true, false, Some, None, length, take, drop, sym, ap, ap₂, ◌∙◌, arith, zero-add}
use Rattle.std.proofs.lemmas.Bool.{not-false, not-true}
use Rattle.std.proofs.lemmas.List.{length-take-le}
use Rattle.std.specs.List.{list_any, position_from, position_or_len}
use Rattle.std.specs.Str.{bytes_eq}
use Rattle.split_names.specs.Names.{bytes_of, same_after}
use Rattle.split_names.proofs.Lists.{bytes_left, bytes_length, bytes_up_to, nothing_left}
use Rattle.split_names.proofs.MetTexts.{met_more, no_place, place_met, same}
use Rattle.split_names.proofs.Naming.{same_found, same_later, same_none}
use Rattle.split_names.proofs.names.same_names.Goals as goal

pub returns-then-not-is_new : goal.returns-then-not-is_new
returns-then-not-is_new c =
    let i = c.loop-place.place in
    let text = c.index-names-place.result in
    let key = c.as_slice.result in
    let keys = c.loop-place.met.keys in
    let names = bytes_of c.args.names.now in
    let before = take i names in
    let there = c.loop-place-test.true in
    let inv = c.loop-place.invariant in
    let h = c.in_ok-first.ensures in
    let old : list_any (same key) keys ≡ true = not-false _ (sym h.added ∙ c.if-not-is_new.true) in
    let place : position_from (bytes_eq text.items) 0 before ≡ Some c.in_ok-first.first =
    ap₂ (λ name others. position_from (bytes_eq name) 0 others) (sym c.as_slice.ensures.value) (sym inv.seen)
    ∙ (place_met keys key 0 old ∙ ap Some (zero-add (position_or_len (same key) keys) ∙ sym h.index))
    in
    let long : length before ≡ i = length-take-le i names (omega (arith, there, bytes_length c.args.names.now)) in
    ap (λ n. Some (c.in_ok-first.first, n)) (sym long)
    ∙ (sym (same_found before text.items (drop (i + 1) names) c.in_ok-first.first place)
    ∙ (ap (same_after before) (sym (bytes_left c.args.names.now i text c.index-names-place.is there)) ∙ inv.so_far))

pub loop-place-preserved : goal.loop-place-preserved
loop-place-preserved c =
    let i = c.loop-place.place in
    let text = c.index-names-place.result in
    let key = c.as_slice.result in
    let keys = c.loop-place.met.keys in
    let names = bytes_of c.args.names.now in
    let before = take i names in
    let there = c.loop-place-test.true in
    let inv = c.loop-place.invariant in
    let h = c.in_ok-first.ensures in
    let new : list_any (same key) keys ≡ false = not-true _ (sym h.added ∙ c.if-not-is_new.false) in
    let none : position_from (bytes_eq text.items) 0 before ≡ None =
    ap₂ (λ name others. position_from (bytes_eq name) 0 others) (sym c.as_slice.ensures.value) (sym inv.seen) ∙ no_place keys key 0 new
    in
    let more = bytes_up_to c.args.names.now i text c.index-names-place.is there in
    record {
      seen = met_more keys c.insert_full.new.self.keys key new h.keys ∙ (ap₂ (λ l b. l ++ b ∷ []) inv.seen c.as_slice.ensures.value ∙ sym more);
      so_far = ap (λ others. same_after others (drop (i + 1) names)) more
          ∙ (sym (same_later before text.items (drop (i + 1) names) none)
          ∙ (ap (same_after before) (sym (bytes_left c.args.names.now i text c.index-names-place.is there)) ∙ inv.so_far));
    }

pub returns : goal.returns
returns c =
    let i = c.loop-place.place in
    let names = bytes_of c.args.names.now in
    sym (same_none (take i names))
    ∙ (ap (same_after (take i names)) (sym (nothing_left c.args.names.now i c.loop-place-test.false)) ∙ c.loop-place.invariant.so_far)
