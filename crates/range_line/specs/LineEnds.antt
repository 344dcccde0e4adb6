-- What contracts see of a line's ends.
use Rattle.std.specs.Prelude.{◌≡◌, ℕ, ◌+◌, ◌*◌, Bool, true, false, ◌||◌, List, [], ◌∷◌, ◌++◌, map, length, Option, Some, None, All}
use Rattle.std.specs.List.{range_with_len}
use Rattle.std.specs.List.Sorted.{IsPermutation}
use mathlib.Core.List.{IsPrefix}
use Rattle.atomic_table.specs.Seated.{TableId}
use Rattle.atomic_table.specs.declared.badge.Badge.{Badge}
use Rattle.crossbeam_channel.specs.declared.flavors.array.Key.{Key}
use Rattle.range_line.specs.declared.message.Message.{Message}
use Rattle.range_line.specs.declared.message.Body.{Body}
use Rattle.range_line.specs.Messages.{message, of_file, all_fixes, is_mark, has_mark}

-- which line it is: its channel has this table and this key to it, and this is the first of its files
abbrev pub Line : Type 0
Line = TableId × Badge (Key Message) × ℕ

abbrev pub first_file : Line → ℕ
first_file line = line.2

-- a feeder: its line, its file, what it sent, whether that has the mark, and whether the line has ended
pub record FeederView : Type 0 where
  pub line : Line
  pub file : ℕ
  pub sent : List Message
  pub closed : Bool
  pub ended : Bool

-- the taker: its line, the files of the line, how many messages the line holds at most, what it took, and whether the line has ended
pub record TakerView : Type 0 where
  pub line : Line
  pub files : List ℕ
  pub depth : ℕ
  pub taken : List Message
  pub ended : Bool

-- `count` files from the first on, each a step after the one before
abbrev pub files_from : ℕ → ℕ → ℕ → List ℕ
files_from first step count = map (λ j. first + j * step) (range_with_len 0 count)

-- the ends of a new line
abbrev pub new_feeder : Line → ℕ → FeederView
new_feeder line file = record { line = line; file = file; sent = []; closed = false; ended = false }

abbrev pub new_taker : Line → List ℕ → ℕ → TakerView
new_taker line files depth = record { line = line; files = files; depth = depth; taken = []; ended = false }

-- the feeder's next message, with this body
abbrev pub next_message : FeederView → Body → Message
next_message f body = message f.file (length (all_fixes f.sent)) body

-- the feeder once it sent this body
abbrev pub after_send : FeederView → Body → FeederView
after_send f body = record f { sent = f.sent ++ next_message f body ∷ []; closed = f.closed || is_mark body }

-- the taker once it took a message
abbrev pub after_take : TakerView → Message → TakerView
after_take t m = record t { taken = t.taken ++ m ∷ [] }

-- the ends of a line that has ended, the taker with what it took at the end
abbrev pub ended_feeder : FeederView → FeederView
ended_feeder f = record f { ended = true }

abbrev pub ended_taker : TakerView → Option Message → TakerView
ended_taker t None = record t { ended = true }
ended_taker t (Some m) = record t { taken = t.taken ++ m ∷ []; ended = true }

-- the feeders are of this line
abbrev pub AreOfLine : List FeederView → Line → Type 0
AreOfLine feeders line = All (λ f. f.line ≡ line) feeders

-- each of the files has one of the feeders
abbrev pub AreForFiles : List FeederView → List ℕ → Type 0
AreForFiles feeders files = IsPermutation (map (λ f. f.file) feeders) files

-- a beginning of what the feeder sent was taken, and all of it where the mark was taken
pub record IsTakenOf (taken : List Message) (f : FeederView) : Type 0 where
  pub prefix : IsPrefix (of_file taken f.file) f.sent
  pub marked : has_mark (of_file taken f.file) ≡ true → of_file taken f.file ≡ f.sent

-- all that the feeder sent was taken
abbrev pub IsAllTaken : List Message → FeederView → Type 0
IsAllTaken taken f = of_file taken f.file ≡ f.sent
