-- Messages, and what the messages of one file may be.
use Rattle.std.specs.Prelude.{◌≡◌, ℕ, ◌+◌, ◌-◌, ◌*◌, ◌/◌, ◌≤◌, Bool, true, false, ◌||◌, ◌==◌, List, [], ◌∷◌, ◌++◌, length, map, take, drop, filter, flat_map}
use Rattle.std.specs.List.{range_with_len}
use Rattle.range_plane.specs.Fix.{fix_limit}
use Rattle.range_plane.specs.declared.Fix.{Fix}
use Rattle.range_options.specs.Limits.{block_limit}
use Rattle.range_line.specs.declared.message.Message.{Message}
use Rattle.range_line.specs.declared.message.Body.{Body}
use Rattle.range_line.specs.declared.message.Body.TheVariants.{Block, Mark}

-- the message of a file with this place and this body
abbrev pub message : ℕ → ℕ → Body → Message
message file place body = record { file = file; place = place; body = body }

-- a block of fixes, as the body of a message
abbrev pub block_of : List Fix → Body
block_of fixes = Block fixes

-- the mark, as the body of a message
abbrev pub the_mark : Body
the_mark = Mark

-- the messages of one file among those of several, in order
abbrev pub of_file : List Message → ℕ → List Message
of_file messages file = filter (λ m. m.file == file) messages

-- the fixes in the body of a message: those of a block, and none of the mark
abbrev pub fixes_in : Body → List Fix
fixes_in (Block fixes) = fixes
fixes_in Mark = []

-- the fixes in messages, in order
abbrev pub all_fixes : List Message → List Fix
all_fixes messages = flat_map (λ m. fixes_in m.body) messages

-- the fixes of one file in the messages of several, in order
abbrev pub fixes : List Message → ℕ → List Fix
fixes messages file = all_fixes (of_file messages file)

abbrev pub is_mark : Body → Bool
is_mark (Block _) = false
is_mark Mark = true

-- whether a mark is among the messages
abbrev pub has_mark : List Message → Bool
has_mark [] = false
has_mark (m ∷ ms) = is_mark m.body || has_mark ms

-- what a body may be where these messages of its file come after it: a block that is neither empty nor too large, or a mark with nothing after it
abbrev pub IsFit : Body → List Message → Type 0
IsFit (Block fixes) after = (1 ≤ length fixes) × (length fixes ≤ block_limit)
IsFit Mark after = after ≡ []

-- a message of a file stands between these before it and these after it: its place is the number of fixes before it,
-- and its body may stand there
pub record IsPlaced (before : List Message) (m : Message) (after : List Message) : Type 0 where
  pub place : m.place ≡ length (all_fixes before)
  pub body : IsFit m.body after

-- what the messages of one file may be: they have no more fixes than a file may have, and each stands where it may
pub record IsOrderly (messages : List Message) : Type 0 where
  pub room : length (all_fixes messages) ≤ fix_limit
  pub each : (before : List Message) (m : Message) (after : List Message) → messages ≡ before ++ m ∷ after → IsPlaced before m after

-- the messages of this file among those of several are what the messages of one file may be
abbrev pub IsLawful : List Message → ℕ → Type 0
IsLawful messages file = IsOrderly (of_file messages file)

-- block j, counted from 0, of a file's fixes cut into blocks of this size
abbrev pub block : ℕ → List Fix → ℕ → ℕ → Message
block file all size j = message file (j * size) (block_of (take size (drop (j * size) all)))

-- how many blocks of this size hold the fixes, of which the last may be shorter
abbrev pub block_count : List Fix → ℕ → ℕ
block_count all size = (length all + size - 1) / size

-- the first `count` blocks of a file's fixes cut into blocks of this size
abbrev pub blocks : ℕ → List Fix → ℕ → ℕ → List Message
blocks file all size count = map (block file all size) (range_with_len 0 count)

-- the messages of a file with these fixes, cut into blocks of this size: all blocks, and then the mark
abbrev pub stream : ℕ → List Fix → ℕ → List Message
stream file all size = blocks file all size (block_count all size) ++ message file (length all) the_mark ∷ []
