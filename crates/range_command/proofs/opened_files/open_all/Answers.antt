use Rattle.std.proofs.Common.{◌≡◌, ◌++◌, ◌∷◌, [], ℕ, List, String, Global, length, string_bytes, take, subst, ap, ◌∙◌, rules, arith}
use Rattle.std.proofs.Math.Seq.{take-length}
use Rattle.range_command.specs.Opener.{AllMayOpen, Found, MayOpen, bytes_in}
use Rattle.range_command.specs.Command.{IsUnopened}
use Rattle.range_command.proofs.RunSources.{may_open_of, told_more, unopened_of_files}
use Rattle.range_command.proofs.opened_files.open_all.Goals as goal

pub returns-in-Err-clause-refusal : goal.returns-in-Err-clause-refusal
returns-in-Err-clause-refusal g c =
    let find : List ℕ → Found = g.O.Opener.finds c.args.opener.now in
    let path = c.path-item.result in
    let told = subst (λ (bytes : List ℕ). IsUnopened (find bytes) bytes c.unopened.result) c.as_str-in-Err.ensures.value
    (c.unopened.ensures (find c.as_str-in-Err.result.now) (search rules)) in
    unopened_of_files find c.args.paths.now c.loop-path.path-index path c.unopened.result (search (rules, arith)) c.loop-path.invariant.2 (search rules) told

pub loop-path-preserved : goal.loop-path-preserved
loop-path-preserved g c =
    let find : List ℕ → Found = g.O.Opener.finds c.args.opener.now in
    let paths = c.args.paths.now in
    let i = c.loop-path.path-index in
    let path = c.path-item.result in
    let opened = subst (λ (bytes : List ℕ). MayOpen (find bytes) × (g.O.File.Read.remaining c.in-Ok.file ≡ bytes_in (find bytes))) c.as_str.ensures.value c.in-Ok.ensures.opened in
    let pushed : c.push.new.self.items ≡ c.loop-path.sources.items ++ c.new-source.result ∷ [] = search rules in
    let here : g.O.File.Read.remaining c.new-source.result.source ≡ bytes_in (find (string_bytes path)) =
    ap g.O.File.Read.remaining c.new-source.ensures ∙ opened.1 in (
      search rules,
      told_more _ (λ (file : String Global). bytes_in (find (string_bytes file))) paths i path c.loop-path.sources.items _ c.new-source.result (search (rules, arith))
          (search rules) c.loop-path.invariant.1 here pushed,
      may_open_of find paths i path (search (rules, arith)) (search rules) c.loop-path.invariant.2 opened.0,
    )

pub returns-clause-opened : goal.returns-clause-opened
returns-clause-opened g c =
    let find : List ℕ → Found = g.O.Opener.finds c.args.opener.now in
    let paths = c.args.paths.now in
    let ended : c.loop-path.path-index ≡ length paths = omega (arith, c.loop-path.auto.path-index-end, c.loop-path-test.false) in
    subst (AllMayOpen find) (ap (λ (k : ℕ). take k paths) ended ∙ take-length paths) c.loop-path.invariant.2
