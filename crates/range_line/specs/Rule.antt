-- The rule of a line: of each file, what was taken and then what the channel holds is what its feeder sent.
-- It speaks of the channel's messages, the oldest first, and of the views of all passes: a feeder's pass shows
-- what the feeder sent, the taker's what was taken, and feeders that have ended leave what they sent to it.
use Rattle.std.specs.Prelude.{◌≡◌, ℕ, ◌≤◌, Bool, true, false, ◌||◌, List, [], ◌∷◌, ◌++◌, map, length, Contains}
use mathlib.Core.Option.{some}
use lib.ListN.{get_elem?}
use Rattle.range_line.specs.declared.message.Message.{Message}
use Rattle.range_line.specs.declared.rule.Transcript.{Transcript}
use Rattle.range_line.specs.declared.rule.PassView.{PassView}
use Rattle.range_line.specs.Messages.{of_file, is_mark, has_mark, IsLawful}

abbrev pub transcript : ℕ → List Message → Bool → Transcript
transcript file sent closed = record { file = file; sent = sent; closed = closed }

-- a feeder's pass: the first file of its line, what was sent for its own file, and whether it may send more
abbrev pub feeder_pass : ℕ → ℕ → ℕ → List Message → Bool → Bool → PassView
feeder_pass depth first file sent closed sends = record {
  takes = false;
  sends = sends;
  depth = depth;
  files = first ∷ [];
  taken = [];
  transcripts =
      transcript file sent closed ∷ [];
}

-- the taker's pass: the files of the line, what was taken, and what ended feeders had sent
abbrev pub taker_pass : ℕ → List ℕ → List Message → List Transcript → PassView
taker_pass depth files taken transcripts = record { takes = true; sends = false; depth = depth; files = files; taken = taken; transcripts = transcripts }

-- the pass of a new channel becomes the taker's
abbrev pub first_pass : PassView
first_pass = taker_pass 0 [] [] []

abbrev pub spent_pass : PassView
spent_pass = record { takes = false; sends = false; depth = 0; files = []; taken = []; transcripts = [] }

-- the transcript is what was sent for its file, with a mark exactly where it is closed
pub record IsTranscript (all : List Message) (files : List ℕ) (t : Transcript) : Type 0 where
  pub sent : of_file all t.file ≡ t.sent
  pub closed : has_mark t.sent ≡ t.closed
  pub of_line : Contains files t.file

-- what a pass shows is so
pub record IsTruthful (reader : ℕ) (taken all : List Message) (files : List ℕ) (depth pass : ℕ) (v : PassView) : Type 0 where
  pub takes : v.takes ≡ true → (pass ≡ reader) × (v.taken ≡ taken) × (v.files ≡ files) × (v.depth ≡ depth)
  pub shows : (k : ℕ) (t : Transcript) → get_elem? v.transcripts k ≡ some t → IsTranscript all files t × (v.depth ≡ depth)

-- the file of a pass that may send is shown by no other pass
abbrev pub SendAlone : List PassView → Type 0
SendAlone views = (p q : ℕ) (v w : PassView) (k l : ℕ) (s t : Transcript) → get_elem? views p ≡ some v → get_elem? views q ≡ some w → v.sends ≡ true
    → get_elem? v.transcripts k ≡ some s → get_elem? w.transcripts l ≡ some t → s.file ≡ t.file → p ≡ q

-- all that the line has carried is of its files and lawful of each, and the passes show it
pub record IsCarried (reader : ℕ) (taken all : List Message) (files : List ℕ) (depth : ℕ) (views : List PassView) : Type 0 where
  pub of_line : (k : ℕ) (m : Message) → get_elem? all k ≡ some m → Contains files m.file
  pub lawful : (file : ℕ) → IsLawful all file
  pub each : (pass : ℕ) (v : PassView) → get_elem? views pass ≡ some v → IsTruthful reader taken all files depth pass v
  pub alone : SendAlone views

-- the rule
pub record IsRuled (items : List Message) (views : List PassView) : Type 0 where
  -- the taker's pass, what it took, the files of the line and its depth
  pub reader : ℕ
  pub taken : List Message
  pub files : List ℕ
  pub depth : ℕ
  pub room : length items ≤ depth
  pub carried : IsCarried reader taken (taken ++ items) files depth views

-- a feeder's pass once the message was sent
abbrev pub after_sending : PassView → Message → PassView
after_sending v m = record v { transcripts = map (λ t. transcript t.file (t.sent ++ m ∷ []) (t.closed || is_mark m.body)) v.transcripts }

-- the taker's pass once the message was taken, which is of a file of the line; what was taken of each file is lawful
abbrev pub Takes : PassView → Message → PassView → Type 0
Takes v m w = (w ≡ record v { taken = v.taken ++ m ∷ [] }) × Contains v.files m.file × ((file : ℕ) → IsLawful (v.taken ++ m ∷ []) file)

-- these messages are the rest: with them, what was taken is what was sent for each file that the pass shows
pub record IsRest (v : PassView) (items : List Message) : Type 0 where
  pub sent : (k : ℕ) (t : Transcript) → get_elem? v.transcripts k ≡ some t → of_file (v.taken ++ items) t.file ≡ t.sent
  pub lawful : (file : ℕ) → IsLawful (v.taken ++ items) file

-- the taker's pass once a feeder's was split off
abbrev pub after_opening : ℕ → ℕ → PassView → PassView
after_opening depth file v = record v { depth = depth; files = v.files ++ file ∷ [] }

-- a pass that may not send any more
abbrev pub after_ending : PassView → PassView
after_ending v = record v { sends = false }

-- the taker's pass once it has taken in another
abbrev pub after_joining : PassView → PassView → PassView
after_joining v w = record v { transcripts = v.transcripts ++ w.transcripts }
