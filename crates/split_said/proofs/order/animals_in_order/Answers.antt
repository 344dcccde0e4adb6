use Rattle.std.proofs.Common.{◌≡◌, ◌∙◌, ℕ, ◌<◌, ◌≤◌, true, false, [], ◌∷◌, ◌++◌, Some, None, Vec, get_or, nat_lt, take, vec_len, refl, sym, ap, arith}
use Rattle.std.proofs.lemmas.Bool.{cond-false, cond-true}
use Rattle.std.proofs.lemmas.Bool.Decides.{nat_tests}
use Rattle.std.proofs.lemmas.List.{get_or_default, take_more}
use Rattle.split_tracks.specs.declared.fate.Entry.{Entry}
use Rattle.split_tracks.specs.declared.fate.Fate.{Fate}
use Rattle.split_tracks.specs.declared.fate.Fate.TheVariants.{InTrack, LeftOut}
use Rattle.split_said.specs.Order.{animal_in, animals_in_order}
use Rattle.split_said.proofs.Firsts.{is_among}
use Rattle.split_said.proofs.MetAnimals.{met-push, order-other, order-push}
use Rattle.split_said.proofs.order.animals_in_order.Goals as goal
use Rattle.split_said.proofs.order.animals_in_order.Goals.{in-InTrack+then-animal-animals+then-not-index+in_ok-push, in-InTrack+else-animal-animals, else-animal-animals-via-then-animal-animals+else-not-index, else-animal-animals-via-else-animal-animals, in_default}

-- a record in the track of one of so many animals, and in that of another
in_own : (animals animal : ℕ) (entry : Entry) → animal < animals → animal_in animals (InTrack animal entry) ≡ Some animal
in_own animals animal entry below = let is : nat_lt animal animals ≡ true = grind (arith, nat_tests) in cond-true _ _ _ is

in_other : (animals animal : ℕ) (entry : Entry) → animals ≤ animal → animal_in animals (InTrack animal entry) ≡ None
in_other animals animal entry past = let is : nat_lt animal animals ≡ false = grind (arith, nat_tests) in cond-false _ _ _ is

pub loop-fate-preserved : goal.loop-fate-preserved
loop-fate-preserved c =
    let inv = c.loop-fate.invariant in
    let animals = c.args.animals in
    let fates = c.args.fates.now in
    let k = c.loop-fate.fate-index in
    let met = c.loop-fate.met.items in
    let before = take k fates in
    let more = λ (fate : Fate) (d : Fate) (is : get_or fates k d ≡ fate). take_more fates k d c.loop-fate-test.true ∙ ap (λ one. before ++ one ∷ []) is in
    elim c.match-fate.branch [
      | in-InTrack+then-animal-animals+then-not-index+in_ok-push w ↦
          let animal = w.in-InTrack.animal in
          let fate = InTrack animal w.in-InTrack.entry in
          let below = w.if-animal-animals.true in
          let is_new : get_or met animal false ≡ false = cc (w.index.ensures, w.if-not-index.true) in
          let pushed = ap (λ (order : Vec _ _). order.items) w.order-is ∙ w.in_ok-push.ensures.items in
          let first : is_among (animals_in_order animals before) animal ≡ false = ap (λ l. is_among l animal) (sym inv.so_far) ∙ (sym (inv.are_met animal below) ∙ is_new) in
          record {
            count = ap vec_len w.met-is ∙ inv.count;
            are_met = λ other within. ap (λ (now : Vec _ _). get_or now.items other false) w.met-is
                ∙ (met-push met c.loop-fate.order.items animal other (omega (arith, below, inv.count, c.loop-fate.met.ok.0)) (inv.are_met other within)
                ∙ ap (λ l. is_among l other) (sym pushed));
            so_far = pushed
                ∙ (ap (λ l. l ++ animal ∷ []) inv.so_far
                ∙ sym (ap (animals_in_order animals) (more fate _ w.in-InTrack.is)
                ∙ (order-push animals before fate animal (in_own animals animal w.in-InTrack.entry below) ∙ cond-false _ _ _ first)));
          }
      | in-InTrack+else-animal-animals w ↦
          let animal = w.in-InTrack.animal in
          let fate = InTrack animal w.in-InTrack.entry in
          elim w.else-animal-animals.branch [
            | else-animal-animals-via-then-animal-animals+else-not-index w' ↦
                let below = w'.if-animal-animals.true in
                let was_met : get_or met animal true ≡ true = cc (w'.index.ensures, w'.if-not-index.false) in
                let again : is_among (animals_in_order animals before) animal ≡ true =
                ap (λ l. is_among l animal) (sym inv.so_far)
                ∙ (sym (inv.are_met animal below) ∙ (get_or_default met animal false true (omega (arith, below, inv.count, c.loop-fate.met.ok.0)) ∙ was_met)) in
                rw (w.met-is, w.order-is) (record {
                  count = inv.count;
                  are_met = inv.are_met;
                  so_far = inv.so_far
                      ∙ sym (ap (animals_in_order animals) (more fate _ w.in-InTrack.is)
                      ∙ (order-push animals before fate animal (in_own animals animal w.in-InTrack.entry below) ∙ cond-true _ _ _ again));
                })
            | else-animal-animals-via-else-animal-animals w' ↦
                rw (w.met-is, w.order-is) (record {
                  count = inv.count;
                  are_met = inv.are_met;
                  so_far = inv.so_far
                      ∙ sym (ap (animals_in_order animals) (more fate _ w.in-InTrack.is)
                      ∙ order-other animals before fate (in_other animals animal w.in-InTrack.entry w'.if-animal-animals.false));
                })
          ]
      | in_default w ↦
          rw (w.met-is, w.order-is) (record {
            count = inv.count;
            are_met = inv.are_met;
            so_far = inv.so_far
                ∙ sym (ap (animals_in_order animals) (more _ _ w.in_default.is) ∙ order-other animals before (LeftOut w.in_default.field-0 w.in_default.field-1) refl);
          })
    ]
