use Rattle.std.proofs.Common.{◌≡◌, true, false, rules}
use Rattle.std.proofs.lemmas.Bool.{false_from_ne_true}
use Rattle.std.proofs.lemmas.Str.{IsUtf8-from_is_utf8, is_utf8-from_IsUtf8}
use Rattle.std.specs.Str.{is_utf8}
use Rattle.range_texts.proofs.one_line.NameDisplay.fmt.Goals as goal

pub returns-in-Ok-clause-writes : goal.returns-in-Ok-clause-writes
returns-in-Ok-clause-writes g c =
    let name = c.args.self.now.bytes.now in
    let text : is_utf8 name ≡ true = is_utf8-from_IsUtf8 name c.in-Ok.ensures.cases.1 in
    rw (text, ← c.in-Ok.ensures.cases.0) (search rules)

pub returns-in-Err-clause-writes : goal.returns-in-Err-clause-writes
returns-in-Err-clause-writes g c =
    let name = c.args.self.now.bytes.now in
    let none : is_utf8 name ≡ false = false_from_ne_true (is_utf8 name) (λ e. c.in-Err.ensures.cases.0 (IsUtf8-from_is_utf8 name e)) in
    rw none (search rules)
