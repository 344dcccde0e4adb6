use Rattle.std.proofs.Common.{◌≡◌, ℕ, suc, ◌+◌, ◌-◌, true, false, List, slice_index, sym, ◌∙◌, refl, arith}
use Rattle.split_names.specs.Cut.{cut_place, is_inside}
use Rattle.split_names.proofs.cut.cut_place.Goals as goal

-- within a character the place before is looked at
stepped : (bytes : List ℕ) (left back place : ℕ) → left ≡ suc back → is_inside (slice_index bytes place) ≡ true → cut_place bytes left place ≡ cut_place bytes back (place - 1)
unfolding cut_place
stepped bytes left back place more inside = rw (more, inside) refl

-- elsewhere it is the place
stopped : (bytes : List ℕ) (left back place : ℕ) → left ≡ suc back → is_inside (slice_index bytes place) ≡ false → cut_place bytes left place ≡ place
unfolding cut_place
stopped bytes left back place more outside = rw (more, outside) refl

-- and so it is after all steps
ended : (bytes : List ℕ) (left place : ℕ) → left ≡ 0 → cut_place bytes left place ≡ place
unfolding cut_place
ended bytes left place none = rw none refl

pub loop-back-preserved : goal.loop-back-preserved
loop-back-preserved c =
    let inv = c.loop-back.invariant in
    let inside : is_inside (slice_index c.args.bytes.now c.loop-back.place) ≡ true = sym c.is_inside.ensures ∙ c.if-not-is_inside.false in
    rw c.saturating_sub-place.ensures
    (sym (stepped c.args.bytes.now (3 - c.loop-back._back) (3 - (c.loop-back._back + 1)) c.loop-back.place (omega arith) inside) ∙ inv)

pub returns-then-not-is_inside : goal.returns-then-not-is_inside
returns-then-not-is_inside c =
    let inv = c.loop-back.invariant in
    let outside : is_inside (slice_index c.args.bytes.now c.loop-back.place) ≡ false = sym c.is_inside.ensures ∙ c.if-not-is_inside.true in
    sym (stopped c.args.bytes.now (3 - c.loop-back._back) (2 - c.loop-back._back) c.loop-back.place (omega arith) outside) ∙ inv

pub returns : goal.returns
returns c =
    let inv = c.loop-back.invariant in
    sym (ended c.args.bytes.now (3 - c.loop-back._back) c.loop-back.place (omega arith)) ∙ inv
