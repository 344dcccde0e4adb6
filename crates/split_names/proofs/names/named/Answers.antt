use Rattle.std.proofs.Common.{◌≡◌, ℕ, List, [], ◌∷◌, ◌++◌, ◌+◌, ◌<◌, true, false, Vec, length, take, drop, sym, ap, ap₂, ◌∙◌, arith, append_assoc}
use Rattle.std.proofs.lemmas.Bool.{not-false, not-true}
use Rattle.std.proofs.lemmas.List.{append-nil}
use Rattle.std.specs.List.{list_any}
use Rattle.std.specs.Str.{bytes_eq}
use Rattle.split_names.specs.Names.{bytes_of, folded, is_among, named, numbered}
use Rattle.split_names.proofs.Lists.{as_many, bytes_left, bytes_more, bytes_up_to, key_at, nothing_left}
use Rattle.split_names.proofs.MetTexts.{Tells, same, tells_more}
use Rattle.split_names.proofs.Naming.{is_numbered, named_none, stays}
use Rattle.split_names.proofs.names.named.Goals as goal
use Rattle.split_names.proofs.names.named.Goals.{then-is_first+in_ok-copy_of+in_ok-push, else-is_first+in_ok-found+in_ok-push-2+in_ok-push-3}

-- one more name, and those behind it
next_name : (own : List (List ℕ)) (name : List ℕ) (others : List (List ℕ)) → (own ++ name ∷ []) ++ others ≡ own ++ name ∷ others
next_name own name others = append_assoc own (name ∷ []) others

pub loop-place-preserved : goal.loop-place-preserved
loop-place-preserved c =
    let i = c.loop-place.place in
    let text = c.index-names-place.result in
    let key = c.index-keys-place.result in
    let one = c.as_slice.result in
    let names = bytes_of c.args.names.now in
    let keys = bytes_of c.args.keys.now in
    let own = bytes_of c.loop-place.own.items in
    let added = bytes_of c.loop-place.added.items in
    let taken = keys ++ added in
    let there = c.loop-place-test.true in
    let inv = c.loop-place.invariant in
    let h = c.in_ok-is_first.ensures in
    let folds = key_at folded c.args.names.now c.args.keys.now i text key c.requires c.index-names-place.is c.index-keys-place.is there in
    let key_there : i < length c.args.keys.now = omega (arith, there, as_many folded c.args.names.now c.args.keys.now c.requires) in
    let here = bytes_left c.args.names.now i text c.index-names-place.is there in
    let keyed = bytes_up_to c.args.keys.now i key c.index-keys-place.is key_there in
    let asked : is_among (take i keys) text.items ≡ list_any (same one) c.loop-place.met.keys =
    ap (λ name. list_any (bytes_eq name) (take i keys)) (sym folds ∙ sym c.as_slice.ensures.value) ∙ sym (inv.tells one)
    in
    let told : Tells c.insert.new.self.keys (take (i + 1) keys) = λ other.
    tells_more c.loop-place.met.keys c.insert.new.self.keys (take i keys) one inv.tells h.keys other
    ∙ ap (list_any (bytes_eq other.now)) (ap (λ b. take i keys ++ b ∷ []) c.as_slice.ensures.value ∙ sym keyed)
    in
    elim c.if-is_first.branch [
      | then-is_first+in_ok-copy_of+in_ok-push w ↦
          let first : is_among (take i keys) text.items ≡ false = asked ∙ not-true _ (sym h.added ∙ w.if-is_first.true) in
          let copied = w.in_ok-copy_of.ensures ∙ w.deref.ensures.value in
          let own_more = ap (λ (v : Vec (Vec _ _) _). bytes_of v.items) w.own-is
          ∙ (bytes_more w.push.new.self c.loop-place.own _ w.in_ok-push.ensures.items ∙ ap (λ b. own ++ b ∷ []) copied)
          in
          let taken_same : keys ++ bytes_of c.if-is_first.added.items ≡ taken = ap (λ (v : Vec (Vec _ _) _). keys ++ bytes_of v.items) w.added-is in
          record {
            tells = told;
            so_far = ap₂ (λ now others. now ++ named (take (i + 1) keys) others (drop (i + 1) names)) own_more taken_same
                ∙ (next_name own text.items _
                ∙ (ap (λ l. own ++ l) (sym (stays names keys taken i text.items key.items here keyed folds first)) ∙ inv.so_far));
          }
      | else-is_first+in_ok-found+in_ok-push-2+in_ok-push-3 w ↦
          let later : is_among (take i keys) text.items ≡ true = asked ∙ not-false _ (sym h.added ∙ w.if-is_first.false) in
          let found = w.in_ok-found.found in
          let number : found.name.items ≡ numbered taken text.items = w.in_ok-found.ensures.name
          ∙ ap₂ (λ name others. numbered (keys ++ bytes_of others) name) w.deref-else-is_first.ensures.value w.deref-else-is_first-2.ensures.value
          in
          let own_more = ap (λ (v : Vec (Vec _ _) _). bytes_of v.items) w.own-is
          ∙ (bytes_more w.push-else-is_first.new.self c.loop-place.own found.name w.in_ok-push-2.ensures.items ∙ ap (λ b. own ++ b ∷ []) number)
          in
          let added_more = ap (λ (v : Vec (Vec _ _) _). bytes_of v.items) w.added-is
          ∙ bytes_more w.push-else-is_first-2.new.self c.loop-place.added found.folded w.in_ok-push-3.ensures.items
          in
          let taken_more : keys ++ bytes_of c.if-is_first.added.items ≡ taken ++ folded (numbered taken text.items) ∷ [] =
          ap (λ l. keys ++ l) (added_more ∙ ap (λ k. added ++ k ∷ []) (w.in_ok-found.ensures.folded ∙ ap folded number))
          ∙ sym (append_assoc keys added (folded (numbered taken text.items) ∷ []))
          in
          record {
            tells = told;
            so_far = ap₂ (λ now others. now ++ named (take (i + 1) keys) others (drop (i + 1) names)) own_more taken_more
                ∙ (next_name own (numbered taken text.items) _
                ∙ (ap (λ l. own ++ l) (sym (is_numbered names keys taken i text.items key.items here keyed folds later)) ∙ inv.so_far));
          }
    ]

pub returns : goal.returns
returns c =
    let i = c.loop-place.place in
    let own = bytes_of c.loop-place.own.items in
    let keys = bytes_of c.args.keys.now in
    let taken = keys ++ bytes_of c.loop-place.added.items in
    sym (append-nil own)
    ∙ (ap (λ l. own ++ l) (sym (named_none (take i keys) taken))
    ∙ (ap (λ l. own ++ named (take i keys) taken l) (sym (nothing_left c.args.names.now i c.loop-place-test.false)) ∙ c.loop-place.invariant.so_far))
