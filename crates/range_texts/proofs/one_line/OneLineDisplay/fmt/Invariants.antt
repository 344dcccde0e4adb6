use Rattle.std.proofs.Common.{◌≡◌, ℕ, List, ◌++◌}
use Rattle.std.specs.Fmt.{HasWritten, IsPlainFormatter}
use Rattle.std.specs.Str.{IsUtf8}
use Rattle.std.specs.Str.Iter.{chars_rest}
use Rattle.range_texts.specs.Seen.{shown_text}
use Rattle.range_texts.proofs.one_line.OneLineDisplay.fmt.Given as goal

abbrev pub invariant-loop-character : goal.invariant-loop-character
invariant-loop-character g l =
    IsUtf8 (chars_rest l.rest)
    × (IsPlainFormatter l.fn.f
    → (done : List ℕ) × HasWritten g.W.Write.write_str_gives l.fn.f done l.f
    × (done ++ shown_text l.fn.self.doubles (chars_rest l.rest) ≡ shown_text l.fn.self.doubles l.fn.self.text.now))
