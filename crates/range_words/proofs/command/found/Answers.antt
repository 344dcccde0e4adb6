use Rattle.std.proofs.Common.{map, List, Global}
use Rattle.std.specs.Prelude.{string_bytes}
use Rattle.std.proofs.lemmas.Result.{IfOk-weaker}
use Rattle.clap.specs.Words.{Text, app_of}
use Rattle.range_words.proofs.KnownWords.{block_number, depth_number, workers_number, rows_found, fails_by}
use Rattle.range_words.proofs.command.found.Goals as goal

pub returns : goal.returns
returns c =
    let cmd = c.in_ok-command.command in
    let is = c.in_ok-command.ensures in
    let words : List Text = map (string_bytes {Z = Global}) c.args.words.now in
    let parse = c.try_get_matches_from in
    record {
      rows = IfOk-weaker parse.result _ _ (λ m h. rows_found (app_of cmd) words m is h) parse.ensures.matches;
      fault = fails_by (app_of cmd) words parse.result is parse.ensures.kinds;
      block = IfOk-weaker parse.result _ _ (λ m h. block_number cmd m is h) parse.ensures.parsed;
      depth = IfOk-weaker parse.result _ _ (λ m h. depth_number cmd m is h) parse.ensures.parsed;
      workers = IfOk-weaker parse.result _ _ (λ m h. workers_number cmd m is h) parse.ensures.parsed;
    }
