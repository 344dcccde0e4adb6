use Rattle.std.proofs.Common.{◌≡◌, Some, None, true, refl, IfSome}
use Rattle.range_fixes.specs.declared.reader.Stage.TheVariants.{Going}
use Rattle.range_fixes.specs.Progress.{is_stage_of_text}
use Rattle.range_fixes.specs.Reader.{progress_by}
use Rattle.range_fixes.specs.Reading.{no_more}
use Rattle.range_fixes.proofs.ProgressFacts.{at_stop, fix_given, reading_none}
use Rattle.range_fixes.proofs.reader.FixReader.next.Goals as goal

pub returns-in-Ended-clause-text : goal.returns-in-Ended-clause-text
returns-in-Ended-clause-text g c = λ r h.
    let p = c.args.self.now in
    let text : is_stage_of_text p.stage ≡ true = rw (← c.self.view_is, c.in-Ended.is) refl in
    let ahead : IfSome p.ahead (λ all. all ≡ no_more c.self.inside.records.animal None) = rw (← c.self.view_is, c.in-Ended.is) refl in
    at_stop p r _ h text ahead refl

pub returns-in-Failed-clause-text : goal.returns-in-Failed-clause-text
returns-in-Failed-clause-text g c = λ r h of_text.
    let p = c.args.self.now in
    let text : is_stage_of_text p.stage ≡ true = rw (← c.self.view_is, c.in-Failed.is) of_text in
    let ahead : IfSome p.ahead (λ all. all ≡ no_more c.self.inside.records.animal (Some c.in-Failed.fault)) = rw (← c.self.view_is, c.in-Failed.is) refl in
    at_stop p r _ h text ahead refl

pub returns-in-Ok-Some-clause-reads : goal.returns-in-Ok-Some-clause-reads
returns-in-Ok-Some-clause-reads g c = λ r h.
    let i = c.self.inside in
    let gives = rw c.in-Ok-Some.field-0-is at c.in-Ok-Some.ensures.gives in
    let given = fix_given i.records c.next_used.new.self i.count c.in-Ok-Some.one r gives (rw (← c.self.view_is, c.in-Going.is) at h) in
    rw c.in-Going.is given.0

pub returns-in-Ok-Some-clause-text : goal.returns-in-Ok-Some-clause-text
returns-in-Ok-Some-clause-text g c = λ r h.
    let i = c.self.inside in
    let gives = rw c.in-Ok-Some.field-0-is at c.in-Ok-Some.ensures.gives in
    let given = fix_given i.records c.next_used.new.self i.count c.in-Ok-Some.one r gives (rw (← c.self.view_is, c.in-Going.is) at h) in
    rw (← c.self.view_is) given.1

pub returns-in-Err-clause-text : goal.returns-in-Err-clause-text
returns-in-Err-clause-text g c = λ r h text.
    let i = c.self.inside in
    let none = reading_none i.records.ahead _ _ i.count (c.in-Err.ensures.gives text) in
    let end = at_stop (progress_by Going i.count i.records) r _ (rw (← c.self.view_is, c.in-Going.is) at h) refl none refl in
    rw (← c.self.view_is) end
