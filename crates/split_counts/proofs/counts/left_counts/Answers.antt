use Rattle.std.proofs.Common.{◌≡◌, ℕ, List, ◌∙◌, ◌+◌, ◌++◌, ◌<◌, ◌∷◌, [], take, ap, sym, arith, length, get_or}
use Rattle.std.proofs.lemmas.List.{get_or-replicate, length-replicate, length-take-le, take_more}
use Rattle.std.proofs.lemmas.List.Sums.{count_by-le-length}
use Rattle.split_tracks.specs.declared.fate.Fate.{Fate}
use Rattle.split_counts.specs.Counts.{is_in_slot, slot_of}
use Rattle.split_counts.proofs.Slots.{counted, counted_more, counts_long, none_yet, other_more, slot_within, track_more}
use Rattle.split_counts.proofs.counts.left_counts.Goals as goal
use Rattle.split_counts.proofs.counts.left_counts.Goals.{in-LeftOut+then-is_one_of, in-LeftOut+else-is_one_of, in-InTrack}

pub loop-fate-init : goal.loop-fate-init
loop-fate-init g c =
    let zeros = c.in_ok-counts.ensures.items_if_clones_equal (λ y same. same) in
    none_yet c.args.animals c.in_ok-counts.counts.items (ap length zeros ∙ length-replicate _ _) (λ slot below. ap (λ l. get_or l slot 0) zeros ∙ get_or-replicate _ slot 0 0 below)

pub index_mut-requires : goal.index_mut-requires
index_mut-requires g c =
    let within = slot_within c.args.animals c.in-LeftOut.animal c.in-LeftOut.reason c.if-is_one_of.ensures in
    let long = ap length c.loop-fate.invariant ∙ counts_long c.args.animals (take c.loop-fate.fate-index c.args.fates.now) in
    omega (arith, within, long, c.slot_of.ensures, c.loop-fate.counts.ok.0)

pub overflow_add-index_mut : goal.overflow_add-index_mut
overflow_add-index_mut g c =
    let animal = c.in-LeftOut.animal in
    let reason = c.in-LeftOut.reason in
    let fates = c.args.fates.now in
    let before = take c.loop-fate.fate-index fates in
    let is = counted c.args.animals before animal reason c.loop-fate.counts.items c.slot_of.result c.index_mut.result.now c.if-is_one_of.ensures c.loop-fate.invariant c.slot_of.ensures c.index_mut.ensures.value in
    let most = count_by-le-length (is_in_slot c.args.animals (slot_of c.args.animals animal reason)) before in
    omega (arith, is, most, length-take-le c.loop-fate.fate-index fates (omega (arith, c.loop-fate-test.true)), c.loop-fate-test.true)

-- a record more
more : (fates : List Fate) (k : ℕ) (d fate : Fate) → k < length fates → get_or fates k d ≡ fate → take (k + 1) fates ≡ take k fates ++ fate ∷ []
more fates k d fate below is = take_more fates k d below ∙ ap (λ f. take k fates ++ f ∷ []) is

pub loop-fate-preserved : goal.loop-fate-preserved
loop-fate-preserved g c =
    let animals = c.args.animals in
    let fates = c.args.fates.now in
    let k = c.loop-fate.fate-index in
    let counts = c.loop-fate.counts.items in
    elim c.match-fate.branch [
      | in-LeftOut+then-is_one_of w ↦
          rw w.counts-is (counted_more animals (take k fates) (take (k + 1) fates) w.in-LeftOut.animal w.in-LeftOut.reason counts w.slot_of.result w.index_mut.result.now
          (more fates k _ _ c.loop-fate-test.true w.in-LeftOut.is) w.if-is_one_of.ensures c.loop-fate.invariant w.slot_of.ensures w.index_mut.ensures.value)
      | in-LeftOut+else-is_one_of w ↦
          rw w.counts-is (other_more animals (take k fates) (take (k + 1) fates) w.in-LeftOut.animal w.in-LeftOut.reason counts
          (more fates k _ _ c.loop-fate-test.true w.in-LeftOut.is) (sym w.if-is_one_of.ensures) c.loop-fate.invariant)
      | in-InTrack w ↦
          rw w.counts-is (track_more animals (take k fates) (take (k + 1) fates) w.in-InTrack.animal w.in-InTrack.entry counts
          (more fates k _ _ c.loop-fate-test.true w.in-InTrack.is) c.loop-fate.invariant)
    ]
