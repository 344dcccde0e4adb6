use Rattle.std.proofs.Common.{◌≡◌, ◌<◌, ◌∙◌, refl, sym, arith}
use Rattle.std.proofs.lemmas.Bool.{false≢true}
use Rattle.std.proofs.lemmas.Result.{err_from_is_err_and}
use Rattle.range_plane.specs.Fix.{fix_limit}
use Rattle.range_fixes.proofs.GivenFacts.{ahead_below, made_of_first, made_of_last, made_of_none}
use Rattle.range_fixes.proofs.ReadingFacts.{animal_after, at_end, not_gone, one_fails, one_passes, passed_within, text_fault, then_within, too_many}
use Rattle.range_fixes.proofs.checked_records.CheckedRecords.next_record.Goals as goal

pub returns-then-not-branch-clause-gives : goal.returns-then-not-branch-clause-gives
returns-then-not-branch-clause-gives g c =
    let gone = rw c.if-not-branch.true at c.in_ok-advance.ensures.takes in
    let made = ahead_below _ _ _ _ _ _ _ c.self.invariant.headed c.in_ok-has_use.ensures.takes in
    rw (← c.self.view_is) (made_of_none _ _ _ _ _ _ made gone (at_end _ _ _ _))

pub returns-then-self-gt-FIX_LIMIT-clause-gives : goal.returns-then-self-gt-FIX_LIMIT-clause-gives
returns-then-self-gt-FIX_LIMIT-clause-gives g c =
    let going = rw (← c.self.view_is) at c.requires in
    let last : c.self.inside.count ≡ fix_limit = omega (arith, going.0) in
    let there = rw c.if-not-branch.false at c.in_ok-advance.ensures.takes in
    let made = ahead_below _ _ _ _ _ _ _ c.self.invariant.headed c.in_ok-has_use.ensures.takes in
    λ _. rw (← c.self.view_is) (made_of_last _ _ _ _ _ _ made there (λ records. too_many _ _ _ _ _ records last))

pub returns-in_err-one-clause-gives : goal.returns-in_err-one-clause-gives
returns-in_err-one-clause-gives g c =
    let p = err_from_is_err_and c.from_residual-in_err-one.result c.from_residual-in_err-one.ensures.1 in
    let below : c.self.inside.count < fix_limit = omega arith in
    let there = rw c.if-not-branch.false at c.in_ok-advance.ensures.takes in
    let made = ahead_below _ _ _ _ _ _ _ c.self.invariant.headed c.in_ok-has_use.ensures.takes in
    let refused = rw (c.current-record.ensures, c.as_ref-before.ensures.value) at c.in_err-one.ensures in
    rw (p.1, p.2, ← c.self.view_is) (λ _. made_of_last _ _ _ _ _ _ made there (λ records. one_fails _ _ _ _ _ _ records below (sym refused)))

pub returns-in_err-one-clause-own : goal.returns-in_err-one-clause-own
returns-in_err-one-clause-own g c =
    let p = err_from_is_err_and c.from_residual-in_err-one.result c.from_residual-in_err-one.ensures.1 in
    rw (p.1, p.2) (not_gone _ (text_fault _ _ _ _ _ _ (sym c.in_err-one.ensures)))

pub returns-in_err-one-clause-cause : goal.returns-in_err-one-clause-cause
returns-in_err-one-clause-cause g c =
    let p = err_from_is_err_and c.from_residual-in_err-one.result c.from_residual-in_err-one.ensures.1 in
    let text = text_fault _ _ _ _ _ _ (sym c.in_err-one.ensures) in
    rw (p.1, p.2) (λ other. absurd (false≢true (sym other ∙ text)))

pub invariant_of-self-2 : goal.invariant_of-self-2
invariant_of-self-2 g c =
    let passed = rw (c.current-record.ensures, c.as_ref-before.ensures.value) at c.in_ok-one.ensures in
    let noted = rw (c.name_of-name.ensures, c.current-record.ensures) at c.in_ok-note.ensures.ok in
    record {
      headed = rw c.in_ok-has_use.ensures.header tt;
      within = rw noted (then_within _ _ _ c.self.invariant.within (passed_within _ _ _ _ _ _ (sym passed)));
    }

pub returns-clause-gives : goal.returns-clause-gives
returns-clause-gives g c =
    let below : c.self.inside.count < fix_limit = omega arith in
    let there = rw c.if-not-branch.false at c.in_ok-advance.ensures.takes in
    let made = ahead_below _ _ _ _ _ _ _ c.self.invariant.headed c.in_ok-has_use.ensures.takes in
    let passed = rw (c.current-record.ensures, c.as_ref-before.ensures.value) at c.in_ok-one.ensures in
    let noted = rw (c.name_of-name.ensures, c.current-record.ensures) at c.in_ok-note.ensures.ok in
    rw (← c.self.view_is, c.in_ok-has_use.ensures.header, noted)
    (made_of_first _ _ _ _ _ _ _ _ made there (λ records. one_passes _ _ _ _ _ _ records below (sym passed)) (λ records. animal_after _ _ _ _ records))

pub returns-clause-given : goal.returns-clause-given
returns-clause-given g c =
    let noted = rw (c.name_of-name.ensures, c.current-record.ensures) at c.in_ok-note.ensures.ok in
    let within = passed_within _ _ _ _ _ _ (sym c.in_ok-one.ensures) in
    (rw noted refl, within.0)
