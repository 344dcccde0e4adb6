use Rattle.std.proofs.Common.{◌≡◌, true, false, rules}
use Rattle.split_titles.specs.Plain.{is_blank}
use Rattle.split_titles.proofs.Blanks.{cut_at_the_end, kept_to_the_end, none_to_the_end}
use Rattle.split_titles.proofs.plain.before_blanks.Goals as goal

pub returns-then-not-is_blank : goal.returns-then-not-is_blank
returns-then-not-is_blank c =
    let other : is_blank c.in-Some.last.now ≡ false = search rules in
    kept_to_the_end c.args.text.now c.loop-last.rest.now c.in-Some.others.now c.in-Some.last.now c.loop-last.invariant c.in-Some.ensures.cases.0 other

pub loop-last-preserved : goal.loop-last-preserved
loop-last-preserved c =
    let blank : is_blank c.in-Some.last.now ≡ true = search rules in
    cut_at_the_end c.args.text.now c.loop-last.rest.now c.in-Some.others.now c.in-Some.last.now c.loop-last.invariant c.in-Some.ensures.cases.0 blank

pub returns : goal.returns
returns c = none_to_the_end c.args.text.now c.loop-last.rest.now c.loop-last.invariant c.in_default.ensures.cases
