use Rattle.std.proofs.Common.{◌≡◌, ℕ, List, get_or, ap, sym, ◌∙◌, subst, rules}
use Rattle.std.specs.Prelude.{All, Contains, IfSome, IfNone}
use Rattle.crossbeam_channel.specs.Claims.{view}
use Rattle.crossbeam_channel.specs.Ends.{receives_on}
use Rattle.range_line.specs.declared.rule.PassView.{PassView}
use Rattle.range_line.specs.Messages.{of_file, IsLawful}
use Rattle.range_line.specs.LineEnds.{Line, FeederView, TakerView, AreForFiles, AreOfLine, IsTakenOf}
use Rattle.range_line.specs.Passes.{taken_by, files_known, HasTranscripts}
use Rattle.range_line.proofs.RuleSteps.{At}
use Rattle.range_line.proofs.Passes.{pops, learns, received, received_files, received_of_line, same_line, seat_of_line, taking_of}
use Rattle.range_line.proofs.EndFacts.{ended_of_line, ended_for_files, all_are, are_settled, has_transcripts, received_transcripts, whole}
use Rattle.range_line.proofs.settled.settle.Goals as goal

pub try_recv_as-requires-clause-rule : goal.try_recv_as-requires-clause-rule
try_recv_as-requires-clause-rule g c = let t = c.end_all.ensures.taker.0 in (pops c.end_all.new.pass t, learns c.end_all.new.pass t)

pub compare-requires-clause-taker : goal.compare-requires-clause-taker
compare-requires-clause-taker g c =
    let r = c.try_recv_as in
    (received c.end_all.new.pass r.new.pass (λ kept. kept.0) r.result c.end_all.ensures.taker.0 r.ensures.rule, r.ensures.channel.0.2)

pub compare-requires-clause-line : goal.compare-requires-clause-line
compare-requires-clause-line g c k f at =
    let fs = c.args.feeders.items in
    let line = c.args.taker.line in
    let r = c.try_recv_as in
    let files = received_files _ c.end_all.new.pass r.new.pass r.result r.ensures.rule ∙ ap (λ (v : PassView). v.files) c.end_all.ensures.transcripts in
    same_line (receives_on c.taker.inside.receiver) r.new.pass c.taker.inside.pass r.ensures.channel.0 c.taker.invariant.0 (ap (λ l. get_or l 0 0) files)
    ∙ ap (λ (t : TakerView). t.line) c.taker.view_is
    ∙ are_settled line fs (all_are line fs c.requires.line) k f (subst (λ l. At l k f) c.end_all.ensures.feeders at)

pub compare-requires-clause-transcripts : goal.compare-requires-clause-transcripts
compare-requires-clause-transcripts g c =
    let fs = c.args.feeders.items in
    let p = c.end_all.new.pass in
    let r = c.try_recv_as in
    subst (HasTranscripts r.new.pass) (sym c.end_all.ensures.feeders)
    (received_transcripts _ p r.new.pass r.result fs (has_transcripts c.taker.inside.pass p fs c.end_all.ensures.transcripts) r.ensures.rule)

pub invariant_of-taker : goal.invariant_of-taker
invariant_of-taker g c =
    let r = c.try_recv_as in
    let q = r.new.pass in
    let last = c.compare.new.pass in
    let same = c.compare.ensures.pass in
    let t = received c.end_all.new.pass q (λ kept. kept.0) r.result c.end_all.ensures.taker.0 r.ensures.rule in
    (seat_of_line (receives_on c.taker.inside.receiver) q last r.ensures.channel.0 same.2 same.1, taking_of last (view q) same.0 (t.shows, t.lawful, t.of_line))

pub returns-clause-taken : goal.returns-clause-taken
returns-clause-taken g c =
    let same = ap (λ (v : PassView). v.taken) c.compare.ensures.pass.0 in
    subst (λ l. All (λ f. IsTakenOf l f) c.end_all.new.feeders.items) (sym same) c.compare.ensures.taken

pub returns-clause-whole : goal.returns-clause-whole
returns-clause-whole g c =
    let fs = c.end_all.new.feeders.items in
    let p = c.end_all.new.pass in
    let r = c.try_recv_as in
    let q = r.new.pass in
    let transcripts = subst (HasTranscripts q) (sym c.end_all.ensures.feeders)
    (received_transcripts _ p q r.result c.args.feeders.items
    (has_transcripts c.taker.inside.pass p c.args.feeders.items c.end_all.ensures.transcripts) r.ensures.rule) in
    let same = ap (λ (v : PassView). v.taken) c.compare.ensures.pass.0 in
    subst (λ l. IfNone c.ok-extra.result (All (λ (f : FeederView). of_file l f.file ≡ f.sent) fs)) (sym same)
    (subst (λ o. IfNone o (All (λ (f : FeederView). of_file (taken_by q) f.file ≡ f.sent) fs)) (sym c.ok-extra.ensures.value)
    (whole p q r.result fs transcripts r.ensures.rule))

pub end_all-requires-clause-line : goal.end_all-requires-clause-line
end_all-requires-clause-line g c k f at = ap (λ (t : TakerView). t.line) c.taker.view_is ∙ all_are c.args.taker.line c.args.feeders.items c.requires.line k f at

pub returns-clause-of_line : goal.returns-clause-of_line
returns-clause-of_line g c =
    let r = c.try_recv_as in
    let p = c.end_all.new.pass in
    let files = ap (λ (v : PassView). v.files) c.end_all.ensures.transcripts ∙ ap (λ (t : TakerView). t.files) c.taker.view_is in
    subst (λ l. IfSome c.ok-extra.result (λ m. Contains l m.file)) files
    (subst (λ o. IfSome o (λ m. Contains (files_known p) m.file)) (sym c.ok-extra.ensures.value) (received_of_line _ p r.new.pass r.result r.ensures.rule))

pub returns-clause-lawful : goal.returns-clause-lawful
returns-clause-lawful g c file =
    let r = c.try_recv_as in
    let t = received c.end_all.new.pass r.new.pass (λ kept. kept.0) r.result c.end_all.ensures.taker.0 r.ensures.rule in
    subst (λ l. IsLawful l file) (sym (ap (λ (v : PassView). v.taken) c.compare.ensures.pass.0)) (t.lawful file)

pub returns-clause-line : goal.returns-clause-line
returns-clause-line g c =
    let r = c.try_recv_as in
    let files = received_files _ c.end_all.new.pass r.new.pass r.result r.ensures.rule ∙ ap (λ (v : PassView). v.files) c.end_all.ensures.transcripts in
    let line = c.compare.ensures.pass.2 ∙ same_line (receives_on c.taker.inside.receiver) r.new.pass c.taker.inside.pass r.ensures.channel.0 c.taker.invariant.0
    (ap (λ l. get_or l 0 0) files) ∙ ap (λ (t : TakerView). t.line) c.taker.view_is in
    subst (λ (x : List FeederView × Line). AreOfLine x.0 x.1) (λ i. (sym c.end_all.ensures.feeders i, sym line i))
    (ended_of_line c.args.taker.line c.args.feeders.items c.requires.line)

pub returns-clause-files : goal.returns-clause-files
returns-clause-files g c =
    let p = c.end_all.new.pass in
    let r = c.try_recv_as in
    let files = ap (λ (v : PassView). v.files) c.compare.ensures.pass.0 ∙ received_files _ p r.new.pass r.result r.ensures.rule
    ∙ ap (λ (v : PassView). v.files) c.end_all.ensures.transcripts ∙ ap (λ (t : TakerView). t.files) c.taker.view_is in
    subst (λ (x : List FeederView × List ℕ). AreForFiles x.0 x.1) (λ i. (sym c.end_all.ensures.feeders i, sym files i))
    (ended_for_files c.args.feeders.items c.args.taker.files c.requires.files)

pub returns-clause-feeders : goal.returns-clause-feeders
returns-clause-feeders g c = search rules

pub returns-clause-taker : goal.returns-clause-taker
returns-clause-taker g c = search rules
