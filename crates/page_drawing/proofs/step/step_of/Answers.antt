use Rattle.std.proofs.Common.{◌*◌, ◌<◌, ◌≤◌, inl, inr, refl, arith, below_more}
use Rattle.std.proofs.lemmas.Bool.Decides.{nat_tests}
use Rattle.page_drawing.specs.Steps.{size_at}
use Rattle.page_drawing.proofs.step.step_of.Goals as goal

pub loop-place-preserved : goal.loop-place-preserved
loop-place-preserved c =
    let here : c.args.most * size_at c.loop-place.place * c.args.whole < c.args.part = grind (arith, nat_tests) in
    below_more (λ smaller. c.args.most * size_at smaller * c.args.whole < c.args.part) c.loop-place.place c.loop-place.invariant here

pub returns-then-spans : goal.returns-then-spans
returns-then-spans c =
    let here : c.args.part ≤ c.args.most * size_at c.loop-place.place * c.args.whole = grind (arith, nat_tests) in
    record { spans = inl here; least = c.loop-place.invariant }

pub returns : goal.returns
returns c = record { spans = inr refl; least = λ smaller below. c.loop-place.invariant smaller (omega (arith, below)) }
