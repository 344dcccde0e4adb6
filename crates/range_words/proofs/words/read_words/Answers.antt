use Rattle.std.proofs.Common.{map, List, Global}
use Rattle.std.specs.Prelude.{string_bytes}
use Rattle.clap.specs.Words.{kind_of, fault_of, Text}
use Rattle.range_words.specs.CommandLine.{homerange, found_in}
use Rattle.range_words.proofs.Values.{refusal_is}
use Rattle.range_words.proofs.words.read_words.Goals as goal

pub returns-in-Err-clause-err : goal.returns-in-Err-clause-err
returns-in-Err-clause-err c =
    let words : List Text = map (string_bytes {Z = Global}) c.args.words.now in
    refusal_is (kind_of c.in-Err.error) (fault_of homerange words) (found_in words) c.refusal.result c.in-Err.ensures.fault c.refusal.ensures
