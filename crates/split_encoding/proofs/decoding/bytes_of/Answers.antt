-- The bytes of a `String` are UTF-8.
use Rattle.std.proofs.Common.{ap, ◌∙◌}
use Rattle.std.proofs.lemmas.Str.{IsUtf8-string_bytes, is_utf8-from_IsUtf8}
use Rattle.std.specs.Str.{is_utf8}
use Rattle.std.specs.String.{string_bytes}
use Rattle.split_encoding.proofs.decoding.bytes_of.Goals as goal

pub returns-clause-utf8 : goal.returns-clause-utf8
returns-clause-utf8 c = ap (λ v. is_utf8 v.items) c.into_bytes.ensures.value
    ∙ is_utf8-from_IsUtf8 (string_bytes c.args.text) (IsUtf8-string_bytes c.args.text)
