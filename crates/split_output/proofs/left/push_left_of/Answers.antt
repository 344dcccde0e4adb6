use Rattle.std.proofs.Common.{◌≡◌, ◌∙◌, ℕ, ◌<◌, ◌≤◌, true, false, [], ◌∷◌, ◌++◌, Vec, map, nat_lt, ap, append_assoc, get_or, sym, subst, arith}
use Rattle.std.proofs.lemmas.Bool.{cond-false, cond-true}
use Rattle.std.proofs.lemmas.Bool.Decides.{nat_tests}
use Rattle.std.proofs.lemmas.List.{append-nil, map-append}
use Rattle.split_record.specs.declared.record.Left.{Left}
use Rattle.split_tracks.specs.declared.fate.Reason.TheVariants.{Animal}
use Rattle.split_output.specs.Left.{left_for, left_out, reasons}
use Rattle.split_output.proofs.LeftLines.{left-more, left_all, left_so_far}
use Rattle.split_output.proofs.left.push_left_of.Goals as goal
use Rattle.split_output.proofs.left.push_left_of.Goals.{then-count-gt0+in_ok-push, else-count-gt0}

-- whether a number is not 0
is_some : (n : ℕ) → 0 < n → nat_lt 0 n ≡ true
is_some n h = grind (arith, nat_tests)

is_none : (n : ℕ) → n ≤ 0 → nat_lt 0 n ≡ false
is_none n h = grind (arith, nat_tests)

pub loop-reason-preserved : goal.loop-reason-preserved
unfolding reasons
loop-reason-preserved c =
    λ fates is.
    let inv = c.loop-reason.invariant fates is in
    let k = c.loop-reason.reason-index in
    let why = get_or reasons k Animal in
    let name = c.args.name.now in
    let animal = c.args.animal in
    let old = map left_out c.args.left.now.items in
    let before = left_so_far fates name animal k in
    let line = left_for fates name animal why in
    let counted : c.count_of-count.result ≡ line.count = c.count_of-count.ensures fates is ∙ cond-true _ _ _ c.requires in
    let more = left-more fates name animal k Animal c.loop-reason-test.true in
    elim c.if-count-gt0.branch [
      | then-count-gt0+in_ok-push w ↦
          let pushed : map left_out c.if-count-gt0.left.items ≡ map left_out c.loop-reason.left.items ++ line ∷ [] =
          ap (λ (left : Vec Left _). map left_out left.items) w.left-is
          ∙ (ap (map left_out) w.in_ok-push.ensures.items
          ∙ (map-append left_out c.loop-reason.left.items (record { name = c.args.name; count = c.count_of-count.result; reason = why } ∷ [])
          ∙ ap (λ n. map left_out c.loop-reason.left.items ++ record { name = name; count = n; reason = why } ∷ []) counted)) in
          let some = is_some line.count (subst (λ n. 0 < n) counted w.if-count-gt0.true) in
          pushed
          ∙ (ap (λ l. l ++ line ∷ []) inv
          ∙ (append_assoc old before (line ∷ []) ∙ ap (λ l. old ++ l) (sym (more ∙ ap (λ l. before ++ l) (cond-true _ _ _ some)))))
      | else-count-gt0 w ↦
          let none = is_none line.count (subst (λ n. n ≤ 0) counted w.if-count-gt0.false) in
          ap (λ (left : Vec Left _). map left_out left.items) w.left-is
          ∙ (inv ∙ ap (λ l. old ++ l) (sym (more ∙ (ap (λ l. before ++ l) (cond-false _ _ _ none) ∙ append-nil before))))
    ]

pub returns : goal.returns
returns c =
    λ fates is.
    let end : c.loop-reason.reason-index ≡ 14 = omega (arith, c.loop-reason.auto.reason-index-end, c.loop-reason-test.false) in
    c.loop-reason.invariant fates is
    ∙ ap (λ l. map left_out c.args.left.now.items ++ l)
    (ap (left_so_far fates c.args.name.now c.args.animal) end ∙ left_all fates c.args.name.now c.args.animal)
