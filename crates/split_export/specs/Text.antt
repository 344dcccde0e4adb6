-- Whether bytes are the text of a table.
use Rattle.std.specs.Prelude.{ℕ, ◌==◌, List, Option, Some, None, if◌then◌else◌}
use Rattle.std.specs.List.{list_any}
use Rattle.std.specs.Str.{is_utf8}
use Rattle.split_export.specs.declared.text.TextFault.{TextFault}
use Rattle.split_export.specs.declared.text.TextFault.TheVariants.{ByteZero, NotUtf8}

-- why bytes are no text: they have a byte 0, or are not UTF-8
abbrev pub text_fault : List ℕ → Option TextFault
text_fault bytes = if list_any (λ byte. byte == 0) bytes then Some ByteZero else if is_utf8 bytes then None else Some NotUtf8
