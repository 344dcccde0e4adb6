use Rattle.std.proofs.Common.{◌≡◌, length, IfErr, IfOk, refl, arith}
use Rattle.std.proofs.lemmas.List.{length-map}
use Rattle.range_fixes.specs.Reading.{reading_from, readings}
use Rattle.range_analysis.specs.Sources.{HasNoAnalysisOf, IsAnalysisOf}
use Rattle.range_analysis.proofs.HandedOn.{files_given}
use Rattle.range_analysis.proofs.Outcomes.{outcome, same_count}
use Rattle.range_analysis.proofs.sources.analyse.Given as given
use Rattle.range_analysis.proofs.sources.analyse.Goals as goal
use Rattle.range_analysis.proofs.sources.analyse.Goals.{After-judge, In_ok-followed}

count : (g : given.Over) (c : In_ok-followed g) → length c.in_ok-followed.followed.items ≡ length
    (readings g.S.Read.remaining c.args.plan.unit c.args.sources.items)
count g c = same_count _ 0 (readings g.S.Read.remaining c.args.plan.unit c.args.sources.items) c.in_ok-followed.followed.items c.in_ok-followed.ensures.followed

pub judge-requires-clause-files : goal.judge-requires-clause-files
judge-requires-clause-files g c κs within =
    let sources = c.args.sources.items in
    let all = count g (goal.at.judge-requires-clause-files g c).In_ok-followed in
    let told = length-map sources (reading_from g.S.Read.remaining c.args.plan.unit) in
    let some = c.requires.sources in (
      omega (arith, all, told, some.0, c.args.sources.ok.0, c.in_ok-followed.followed.ok.0),
      omega (arith, all, told, some.1, c.args.sources.ok.0, c.in_ok-followed.followed.ok.0),
    )

analysis_or_fault : (g : given.Over) (c : After-judge g) → IfOk c.judge.result
    (IsAnalysisOf (readings g.S.Read.remaining c.args.plan.unit c.args.sources.items) c.args.levels.now c.args.plan.unit)
    × IfErr c.judge.result (HasNoAnalysisOf (readings g.S.Read.remaining c.args.plan.unit c.args.sources.items))
analysis_or_fault g c =
    let sources = readings g.S.Read.remaining c.args.plan.unit c.args.sources.items in
    let followed = c.in_ok-followed.followed.items in
    let size = c.args.plan.within.0 in
    outcome sources followed (count g (goal.at.returns-clause-analysis g c).In_ok-followed) c.args.levels.now c.args.plan.unit _ c.judge.result refl
    c.judge.ensures.lost c.judge.ensures.judged
    (files_given c.args.plan.block size.0 size.1 0 sources followed
    c.in_ok-followed.ensures.followed)

pub returns-clause-analysis : goal.returns-clause-analysis
returns-clause-analysis g c = (analysis_or_fault g c).0

pub returns-clause-fault : goal.returns-clause-fault
returns-clause-fault g c = (analysis_or_fault g c).1
