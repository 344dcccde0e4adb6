use Rattle.std.proofs.Common.{◌∙◌, ℕ, List, codes, length, map, ap, arith, Global}
use Rattle.std.specs.Prelude.{string_bytes}
use Rattle.std.proofs.lemmas.Grind.{common_steps}
use Rattle.std.proofs.lemmas.List.{length-map}
use Rattle.std.specs.Borrow.{Bor}
use Rattle.clap.specs.Words.{found_of}
use Rattle.clap.proofs.WalkLemmas.{raw_values-rows}
use Rattle.range_words.proofs.Values.{no_texts, some_texts}
use Rattle.range_words.proofs.words.files_of.Goals as goal

pub returns-in_default-clause-files : goal.returns-in_default-clause-files
returns-in_default-clause-files c =
    let f = found_of c.args.matches.now in
    ap (map (string_bytes {Z = Global})) c.new.ensures.items ∙ no_texts c.get_strs.result _
    (c.get_strs.ensures ∙ raw_values-rows f (codes "FILE")) c.in_default.is

pub returns-then-paths-clause-err : goal.returns-then-paths-clause-err
returns-then-paths-clause-err c =
    let f = found_of c.args.matches.now in
    let many = c.if-paths.true in
    let files = c.in-Some.paths in
    let texts = some_texts c.get_strs.result files _ (c.get_strs.ensures ∙ raw_values-rows f (codes "FILE")) c.in-Some.is in
    let same = length-map files.now (λ (v : Bor (List ℕ)). v.now) in
    omega (arith, ap length texts)

pub returns-in-Ok-clause-files : goal.returns-in-Ok-clause-files
returns-in-Ok-clause-files c =
    let f = found_of c.args.matches.now in
    c.in-Ok.ensures ∙ some_texts c.get_strs.result c.in-Some.paths _ (c.get_strs.ensures ∙ raw_values-rows f (codes "FILE")) c.in-Some.is

pub returns-in-Ok-clause-few : goal.returns-in-Ok-clause-few
returns-in-Ok-clause-few c = grind (arith, common_steps)
