use Rattle.std.proofs.Common.{refl, rules}
use Rattle.range_command.specs.Command.{world}
use Rattle.range_command.proofs.RunSources.{alone_said, begun, explained, files_of_run, files_said, none_refused, reported}
use Rattle.range_command.proofs.file_run.run_over.Goals as goal
use Rattle.range_command.proofs.file_run.run_over.Goals.{then-is_empty+in_ok-sources, else-is_empty+in_ok-sources-2}

pub returns-in_err-sources-2-clause-told : goal.returns-in_err-sources-2-clause-told
returns-in_err-sources-2-clause-told g c = search (rules, files_of_run)

pub returns-in-Ok-clause-done : goal.returns-in-Ok-clause-done
returns-in-Ok-clause-done g c =
    let words = c.args.words in
    let unit = words.options.plan.unit in
    let there = world (g.S.Read.remaining c.args.input) (g.O.Opener.finds c.args.opener.now) in
    elim c.if-is_empty.branch [
      | then-is_empty+in_ok-sources w ↦ reported words there _ _ _ _ _ c.in-Ok.field-0 w.run_to_end-outcome.ensures.report (search rules)
          (alone_said _ unit there words.files.items _ (search rules) (search rules)) (search rules) (none_refused there.find words.files.items (search rules))
      | else-is_empty+in_ok-sources-2 w ↦ reported words there _ _ _ _ _ c.in-Ok.field-0 w.run_to_end-outcome-else-is_empty.ensures.report (search rules)
          (files_said _ unit there words.files.items _ (search rules) (search rules)) (search rules) (search rules)
    ]

pub returns-clause-told : goal.returns-clause-told
returns-clause-told g c =
    let words = c.args.words in
    let unit = words.options.plan.unit in
    let there = world (g.S.Read.remaining c.args.input) (g.O.Opener.finds c.args.opener.now) in
    elim c.if-is_empty.branch [
      | then-is_empty+in_ok-sources w ↦ (
        refl,
        none_refused there.find words.files.items (search rules),
        explained words there _ _ c.in-Err.fault w.run_to_end-outcome.ensures.fault (search rules)
            (alone_said _ unit there words.files.items _ (search rules) (search rules)),
      )
      | else-is_empty+in_ok-sources-2 w ↦ (
        refl,
        search rules,
        explained words there _ _ c.in-Err.fault w.run_to_end-outcome-else-is_empty.ensures.fault (search rules)
            (files_said _ unit there words.files.items _ (search rules) (search rules)),
      )
    ]

pub returns-clause-begun : goal.returns-clause-begun
returns-clause-begun g c = λ status.
    let words = c.args.words in
    let unit = words.options.plan.unit in
    let there = world (g.S.Read.remaining c.args.input) (g.O.Opener.finds c.args.opener.now) in
    elim c.if-is_empty.branch [
      | then-is_empty+in_ok-sources w ↦ begun words there _ _ _ _ _ c.in-Err.fault w.run_to_end-outcome.ensures.prefix (search rules) status
          (alone_said _ unit there words.files.items _ (search rules) (search rules)) (search rules) (none_refused there.find words.files.items (search rules))
      | else-is_empty+in_ok-sources-2 w ↦ begun words there _ _ _ _ _ c.in-Err.fault w.run_to_end-outcome-else-is_empty.ensures.prefix (search rules) status
          (files_said _ unit there words.files.items _ (search rules) (search rules)) (search rules) (search rules)
    ]
