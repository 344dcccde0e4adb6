-- What the invariants of a line's ends, and the steps of `settle`, say of passes.
use Rattle.std.specs.Prelude.{◌≡◌, ℕ, Bool, List, [], ◌∷◌, ◌++◌, get_or, map, length, Contains}
use mathlib.Core.Option.{some}
use lib.ListN.{get_elem?}
use Rattle.crossbeam_channel.specs.Claims.{Pass, view}
use Rattle.range_line.specs.declared.message.Message.{Message}
use Rattle.range_line.specs.declared.rule.Transcript.{Transcript}
use Rattle.range_line.specs.declared.rule.PassView.{PassView}
use Rattle.range_line.specs.Messages.{of_file, all_fixes, has_mark, IsOrderly, IsLawful}
use Rattle.range_line.specs.Rule.{transcript, feeder_pass, taker_pass}
use Rattle.range_line.specs.LineEnds.{Line, FeederView}

abbrev pub LinePass : Type 0
LinePass = Pass Message PassView

-- the first file of the line that the pass is of, as it shows
abbrev pub first_known : LinePass → ℕ
first_known p = get_or (view p).files 0 0

-- the line with this first file on the channel that the pass is of
abbrev pub line_from : LinePass → ℕ → Line
line_from p first = (p.table_id, p.me.0.of, first)

-- the line that the pass is of
abbrev pub line_of : LinePass → Line
line_of p = line_from p (first_known p)

abbrev pub first_sent : List Transcript → List Message
first_sent [] = []
first_sent (t ∷ ts) = t.sent

-- what a feeder's pass shows as sent
abbrev pub sent_by : LinePass → List Message
sent_by p = first_sent (view p).transcripts

abbrev pub may_send : LinePass → Bool
may_send p = (view p).sends

abbrev pub taken_by : LinePass → List Message
taken_by p = (view p).taken

abbrev pub files_known : LinePass → List ℕ
files_known p = (view p).files

abbrev pub depth_known : LinePass → ℕ
depth_known p = (view p).depth

-- the pass is that of a feeder
pub record IsFeeding (p : LinePass) (depth file : ℕ) (closed : Bool) (fixes : ℕ) : Type 0 where
  pub shows : view p ≡ feeder_pass depth (first_known p) file (sent_by p) closed (may_send p)
  pub own : of_file (sent_by p) file ≡ sent_by p
  pub orderly : IsOrderly (sent_by p)
  pub marked : has_mark (sent_by p) ≡ closed
  pub count : fixes ≡ length (all_fixes (sent_by p))

-- the pass is that of a taker
pub record IsTaking (p : LinePass) : Type 0 where
  pub shows : view p ≡ taker_pass (view p).depth (files_known p) (taken_by p) (view p).transcripts
  pub lawful : (file : ℕ) → IsLawful (taken_by p) file
  pub of_line : (k : ℕ) (m : Message) → get_elem? (taken_by p) k ≡ some m → Contains (files_known p) m.file

-- these feeders are of the line
abbrev pub AreOf : Line → List FeederView → Type 0
AreOf line fs = (k : ℕ) (f : FeederView) → get_elem? fs k ≡ some f → line ≡ f.line

abbrev pub transcript_of : FeederView → Transcript
transcript_of f = transcript f.file f.sent f.closed

-- the taker's pass once it has taken in those of these feeders
abbrev pub after_joining_all : PassView → List FeederView → PassView
after_joining_all v fs = record v { transcripts = v.transcripts ++ map transcript_of fs }

-- the pass has taken in those of these feeders, last
pub record HasTranscripts (p : LinePass) (fs : List FeederView) : Type 0 where
  pub before : List Transcript
  pub is : (view p).transcripts ≡ before ++ map transcript_of fs
