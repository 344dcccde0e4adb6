-- Laws of lines and of their messages, each the contract of a function of `src/laws.rt`.
use Rattle.std.specs.Prelude.{◌≡◌, ◌↔◌, ℕ, ◌+◌, ◌*◌, ◌<◌, ◌≤◌, true, false, ◌==◌, List, [], ◌∷◌, ◌++◌, length, All, Contains, cond}
use mathlib.Core.List.{IsPrefix}
use Rattle.range_plane.specs.Fix.{fix_limit}
use Rattle.range_plane.specs.declared.Fix.{Fix}
use Rattle.range_options.specs.Limits.{block_limit}
use Rattle.range_line.specs.declared.message.Message.{Message}
use Rattle.range_line.specs.declared.rule.Transcript.{Transcript}
use Rattle.range_line.specs.declared.rule.PassView.{PassView}
use Rattle.range_line.specs.Messages.{of_file, fixes_in, fixes, has_mark, stream, IsFit, IsLawful}
use Rattle.range_line.specs.LineEnds.{files_from}
use Rattle.range_line.specs.Rule.{IsRuled}

-- what a line's taker has taken, what the channel holds and what the passes show
pub record IsInOrder (taken items : List Message) (files : List ℕ) (depth : ℕ) (views : List PassView) : Type 0 where
  -- each message is of a file of the line
  pub of_line : All (λ m. Contains files m.file) (taken ++ items)
  -- of each file that a pass shows, what was taken and then what the channel holds is what was sent
  pub sent : (v : PassView) (t : Transcript) → Contains views v → Contains v.transcripts t → of_file (taken ++ items) t.file ≡ t.sent
  -- of every file that is lawful, so a mark is last
  pub lawful : (file : ℕ) → IsLawful (taken ++ items) file
  -- what was sent has the mark exactly where its feeder is closed
  pub closed : (v : PassView) (t : Transcript) → Contains views v → Contains v.transcripts t → has_mark t.sent ≡ t.closed
  pub room : length items ≤ depth

abbrev pub LinesAreInOrder : Type 0
LinesAreInOrder = (items : List Message) (views : List PassView) (taker : PassView) → IsRuled items views → Contains views taker → taker.takes ≡ true
    → IsInOrder taker.taken items taker.files taker.depth views

abbrev pub TheMarkIsLast : Type 0
TheMarkIsLast = (messages beginning : List Message) (file : ℕ) → IsLawful messages file → IsPrefix beginning (of_file messages file) → has_mark beginning ≡ true
    → beginning ≡ of_file messages file

abbrev pub StreamsAreLawful : Type 0
StreamsAreLawful = (file : ℕ) (all : List Fix) (size : ℕ) → 1 ≤ size → size ≤ block_limit → length all ≤ fix_limit → IsLawful (stream file all size) file
    × (fixes (stream file all size) file ≡ all)

abbrev pub MessagesAddTheirFixes : Type 0
MessagesAddTheirFixes = (messages : List Message) (m : Message) (file : ℕ)
    → fixes (messages ++ m ∷ []) file ≡ fixes messages file ++ cond (m.file == file) (fixes_in m.body) []

-- the message may come next behind these
pub record ComesNext (messages : List Message) (m : Message) : Type 0 where
  pub place : m.place ≡ length (fixes messages m.file)
  pub body : IsFit m.body []
  pub room : length (fixes messages m.file) + length (fixes_in m.body) ≤ fix_limit
  pub unmarked : has_mark (of_file messages m.file) ≡ false

abbrev pub LastMessagesComeNext : Type 0
LastMessagesComeNext = (messages : List Message) (m : Message) → IsLawful (messages ++ m ∷ []) m.file → ComesNext messages m

abbrev pub FilesAreStepsApart : Type 0
FilesAreStepsApart = (first step count file : ℕ) → Contains (files_from first step count) file ↔ ((index : ℕ) × (index < count) × (file ≡ first + index * step))
