use Rattle.std.proofs.Common.{⊎_elim, subst, ◌≡◌, ℕ, ◌≤◌, [], ◌∷◌, ◌++◌, ◌+◌, ◌*◌, get_or, map, inr, refl, sym, ap, ◌∙◌, arith}
use Rattle.std.proofs.lemmas.List.{map-append}
use Rattle.crossbeam_channel.specs.Claims.{view}
use Rattle.crossbeam_channel.specs.Ends.{sends_on, ruled_capacity}
use Rattle.range_line.specs.declared.rule.PassView.{PassView}
use Rattle.range_line.specs.Rule.{taker_pass, after_opening}
use Rattle.range_line.specs.LineEnds.{new_feeder, new_taker, files_from}
use Rattle.range_line.specs.Passes.{LinePass, first_known, line_from, line_of}
use Rattle.range_line.proofs.Orderly.{orderly_empty}
use Rattle.range_line.proofs.RuleSteps.{begins, not_in_none}
use Rattle.range_line.proofs.Files.{files_more, file_is_new, first_of_files, first_or_next, has_a_file}
use Rattle.range_line.proofs.Passes.{taking_of, new_taker_view, new_view}
use Rattle.range_line.proofs.taker.open_line.Goals as goal

-- the first file that the taker's pass shows in the end
first_shown : (p : LinePass) (first step n : ℕ) → view p ≡ taker_pass (view p).depth (files_from first step n) [] [] → 1 ≤ n → first_known p ≡ first
first_shown p first step n is some = ap (λ (v : PassView). get_or v.files 0 0) is ∙ first_of_files first step n 0 some

pub bounded_with-requires-clause-rule : goal.bounded_with-requires-clause-rule
bounded_with-requires-clause-rule g c = begins

pub open-requires-clause-taker : goal.open-requires-clause-taker
open-requires-clause-taker g c =
    let inv = c.loop-number.invariant in
    let files = ap (λ (v : PassView). v.files) inv.1 in (
      inv.1 ∙ ap (λ fs. taker_pass (view c.loop-number.pass).depth fs [] []) (sym files),
      λ has. file_is_new c.args.first c.args.step c.loop-number.number c.requires.files.1 (rw (← files) has),
      inv.3,
    )

pub loop-number-preserved : goal.loop-number-preserved
loop-number-preserved g c =
    let inv = c.loop-number.invariant in
    let old = c.loop-number.pass in
    let new = c.open.new.pass in
    let file = c.args.first + c.loop-number.number * c.args.step in
    let cap = ruled_capacity (sends_on c.in_ok-sender.sender) in
    let files = files_from c.args.first c.args.step c.loop-number.number in
    let more = files_more c.args.first c.args.step c.loop-number.number in
    let known : view new ≡ taker_pass cap (files ++ file ∷ []) [] [] = c.in_ok-open.ensures.taker ∙ ap (after_opening cap file) inv.1 in
    let depth = ap (λ (v : PassView). v.depth) known in
    let line = c.open.ensures.line in
    let first : get_or (view old).files 0 file ≡ c.args.first = ap (λ (v : PassView). get_or v.files 0 file) inv.1
    ∙ first_or_next c.args.first c.args.step c.loop-number.number in
    let feeder = c.in_ok-open.ensures.feeder ∙ ap (λ n. new_feeder (line_from old n) file) first in (
      c.open.ensures.channel,
      known ∙ (λ i. taker_pass (sym depth i) (sym more i) [] []),
      c.push_reserved.ensures.items ∙ (λ i. inv.2 i ++ feeder i ∷ []) ∙ sym (map-append (new_feeder (line_from old c.args.first)) files (file ∷ []))
          ∙ (λ i. map (new_feeder ((sym line i).0, (sym line i).1, c.args.first)) (sym more i)),
      inr depth,
      omega (arith, inv.4, c.push_reserved.ensures.len),
      omega (arith, inv.5, c.push_reserved.ensures.capacity),
    )

pub invariant_of-taker : goal.invariant_of-taker
invariant_of-taker g c =
    let inv = c.loop-number.invariant in (
      rw c.in_ok-sender.ensures.0 inv.0,
      taking_of c.loop-number.pass _ inv.1 (refl, (λ file. orderly_empty), λ k m e. absurd (not_in_none k m e)),
    )

pub returns-clause-taker : goal.returns-clause-taker
returns-clause-taker g c =
    let inv = c.loop-number.invariant in
    let p = c.loop-number.pass in
    let all = c.loop-number-test.false in
    let files = ap (λ (v : PassView). v.files) inv.1 in
    let number : c.loop-number.number ≡ c.args.count = omega (arith, all) in
    let none : (view p).files ≡ [] → ⊥ = λ e. has_a_file c.args.first c.args.step c.loop-number.number (omega (arith, all, c.requires.files.3))
    (sym files ∙ e) in
    subst (λ n. new_view p ≡ new_taker (line_of p) (files_from c.args.first c.args.step n) c.args.depth) number
    (new_taker_view p (files_from c.args.first c.args.step c.loop-number.number) c.args.depth inv.1
    (⊎_elim (λ e. absurd (none e)) (λ e. e ∙ c.in_ok-sender.ensures.1) inv.3))

pub returns-clause-feeders : goal.returns-clause-feeders
returns-clause-feeders g c =
    let inv = c.loop-number.invariant in
    let p = c.loop-number.pass in
    let number : c.loop-number.number ≡ c.args.count = omega (arith, c.loop-number-test.false) in
    let first = first_shown p c.args.first c.args.step c.loop-number.number inv.1 (omega (arith, number, c.requires.files.3)) in
    inv.2 ∙ (λ i. map (new_feeder (line_from p (sym first i))) (files_from c.args.first c.args.step (number i)))

pub returns-clause-line : goal.returns-clause-line
returns-clause-line g c =
    let number : c.loop-number.number ≡ c.args.count = omega (arith, c.loop-number-test.false) in
    first_shown c.loop-number.pass c.args.first c.args.step c.loop-number.number c.loop-number.invariant.1 (omega (arith, number, c.requires.files.3))
