-- What a record of tracks says, line by line.
use Rattle.std.specs.Prelude.{◌≡◌, ◌⊎◌, ℕ, ℤ, pos, Bool, ◌==◌, ◌+◌, nat_le, if◌then◌else◌, codes, List, [], ◌∷◌, ◌++◌, length, map, Option, Some, None, option_map, Result, Ok, Err, Vec}
use Rattle.std.specs.List.{list_any}
use Rattle.std.specs.Str.{bytes_eq, is_utf8}
use Rattle.range_plane.specs.declared.scale.Scale.{Scale}
use Rattle.range_plane.specs.declared.scale.Scale.TheVariants.{Metre, Decimetre}
use Rattle.split_tracks.specs.declared.fate.Reason.{Reason}
use Rattle.page_report.specs.Fields.{◌>>=◌, cut, numbered}
use Rattle.page_report.specs.Reading.{parts}
use Rattle.page_record.specs.Fields.{is_file_name, reason_of, sum_of, whole_of}
use Rattle.page_record.specs.Kinds.{kind_of, may_follow}
use Rattle.page_record.specs.Unescaped.{unescaped}
use Rattle.page_record.specs.Zones.{zone_of}
use Rattle.page_record.specs.declared.fault.LineFault.{LineFault}
use Rattle.page_record.specs.declared.fault.LineFault.TheVariants as line_faults
use Rattle.page_record.specs.declared.fault.RecordFault.{RecordFault}
use Rattle.page_record.specs.declared.fault.RecordFault.TheVariants as faults
use Rattle.page_record.specs.declared.fault.Wrong.{Wrong}
use Rattle.page_record.specs.declared.fault.Wrong.TheVariants as wrongs
use Rattle.page_record.specs.declared.fields.TheConstants.{MOST}
use Rattle.page_record.specs.declared.kind.Kind.{Kind}
use Rattle.page_record.specs.declared.kind.Kind.TheVariants as kinds
use Rattle.page_record.specs.declared.record.Given.{Given}
use Rattle.page_record.specs.declared.record.LeftOut.{LeftOut}
use Rattle.page_record.specs.declared.record.Made.{Made}
use Rattle.page_record.specs.declared.record.Record.{Record}
use Rattle.page_record.specs.declared.zone.Zone.{Zone}

-- ---- what a record says
-- an option, and its value where it has one
pub record OptionSaid : Type 0 where
  pub name : List ℕ
  pub value : Option (List ℕ)

-- how many fixes of an animal were left out for a reason
pub record LeftSaid : Type 0 where
  pub name : List ℕ
  pub count : ℕ
  pub reason : Reason

-- the track of an animal: how many records it has and how many of them are used, and the checksum of its file
pub record TrackSaid : Type 0 where
  pub name : List ℕ
  pub records : ℕ
  pub used : ℕ
  pub sum : List ℕ

pub record Read : Type 0 where
  pub export : Option (List ℕ)
  pub sum : Option (List ℕ)
  pub unit : Scale
  pub zone : Option Zone
  pub shift : ℤ × ℤ
  pub options : List OptionSaid
  pub said : List (List ℕ)
  pub left : List LeftSaid
  pub tracks : List TrackSaid
  pub tools : List (List ℕ)

-- what is seen of a record in memory
abbrev pub option_seen : Given → OptionSaid
option_seen given = record { name = given.name.items; value = option_map (λ value. value.items) given.value }

abbrev pub left_with : List ℕ → ℕ → Reason → LeftSaid
left_with name count reason = record { name = name; count = count; reason = reason }

abbrev pub left_seen : LeftOut → LeftSaid
left_seen left = left_with left.name.items left.count left.reason

abbrev pub track_with : List ℕ → Made → TrackSaid
track_with name made = record { name = name; records = made.records; used = made.used; sum = made.sum }

abbrev pub track_seen : {A : Type 0} → Vec ℕ A × Made → TrackSaid
track_seen entry = track_with entry.0.items entry.1

abbrev pub read : Record → Read
read own = record {
  export = option_map (λ name. name.items) own.export;
  sum = own.sum;
  unit = own.unit;
  zone = own.zone;
  shift = own.shift;
  options = map option_seen own.options.items;
  said = map (λ line. line.items) own.said.items;
  left = map left_seen own.left.items;
  tracks = map track_seen own.tracks.entries;
  tools = map (λ tool. tool.items) own.tools.items;
}

-- what is read before the first line
abbrev pub nothing : Read
nothing = record {
  export = None;
  sum = None;
  unit = Metre;
  zone = None;
  shift = (pos 0, pos 0);
  options = [];
  said = [];
  left = [];
  tracks = [];
  tools = [];
}

-- ---- what stands behind the kind of a line
unfoldable pub unit_of : List ℕ → Option Scale
unit_of text = if bytes_eq text (codes "m") then Some Metre else (if bytes_eq text (codes "dm") then Some Decimetre else None)

unfoldable pub shift_of : List ℕ → Option (ℤ × ℤ)
shift_of text = do
  parts ← cut 44 text
  east ← whole_of parts.0
  north ← whole_of parts.1
  Some (east, north)

-- an option's name, and behind a comma its value
abbrev pub option_by : List ℕ → Option (List ℕ × List ℕ) → Option OptionSaid
option_by text None = Some (record { name = text; value = None })
option_by text (Some (name, value)) = option_map (λ own. record { name = name; value = Some own }) (unescaped value)

unfoldable pub option_of : List ℕ → Option OptionSaid
option_of text = option_by text (cut 44 text)

unfoldable pub left_of : List ℕ → Option LeftSaid
left_of text = do
  named ← cut 44 text
  counted ← numbered MOST named.1
  reason ← reason_of counted.1
  Some (left_with named.0 counted.0 reason)

-- a track, of which no more records are used than it has
unfoldable pub made_of : List ℕ → Option Made
made_of text = do
  records ← numbered MOST text
  used ← numbered MOST records.1
  sum ← sum_of used.1
  if nat_le used.0 records.0 then Some (record { records = records.0; used = used.0; sum = sum }) else None

unfoldable pub track_of : List ℕ → Option TrackSaid
track_of text = do
  named ← cut 44 text
  made ← made_of named.1
  Some (track_with named.0 made)

-- ---- a record with what one more line says
-- what stands behind a kind is put into a record, or is none of the kind
abbrev pub put_if : {A : Type 0} → Wrong → Option A → (A → Read) → Result Read Wrong
put_if wrong None put = Err wrong
put_if wrong (Some own) put = Ok (put own)

abbrev pub file_of : List ℕ → Option (List ℕ)
file_of text = if is_file_name text then Some text else None

-- whether an animal has a track
abbrev pub has_track : List ℕ → List TrackSaid → Bool
has_track name tracks = list_any (λ track. bytes_eq name track.name) tracks

abbrev pub put_track : Read → Option TrackSaid → Result Read Wrong
put_track so_far None = Err wrongs.Track
put_track so_far (Some track) =
    if has_track track.name so_far.tracks then Err wrongs.Again else Ok (record so_far { tracks = so_far.tracks ++ track ∷ [] })

abbrev pub put_line : Kind → List ℕ → Read → Result Read Wrong
put_line kinds.Export text so_far = put_if wrongs.Export (file_of text) (λ name. record so_far { export = Some name })
put_line kinds.Sum text so_far = put_if wrongs.Sum (sum_of text) (λ sum. record so_far { sum = Some sum })
put_line kinds.Scale text so_far = put_if wrongs.Scale (unit_of text) (λ unit. record so_far { unit = unit })
put_line kinds.Zone text so_far = put_if wrongs.Zone (zone_of text) (λ zone. record so_far { zone = zone })
put_line kinds.Shift text so_far = put_if wrongs.Shift (shift_of text) (λ shift. record so_far { shift = shift })
put_line kinds.Given text so_far = put_if wrongs.Escape (option_of text) (λ given. record so_far { options = so_far.options ++ given ∷ [] })
put_line kinds.Said text so_far = Ok (record so_far { said = so_far.said ++ text ∷ [] })
put_line kinds.Left text so_far = put_if wrongs.Left (left_of text) (λ left. record so_far { left = so_far.left ++ left ∷ [] })
put_line kinds.Track text so_far = put_track so_far (track_of text)
put_line kinds.Tool text so_far = Ok (record so_far { tools = so_far.tools ++ text ∷ [] })

-- the kind of a line, which may stand behind the last one, and what stands behind the kind
abbrev pub placed : Option Kind → Option Kind → List ℕ → Result (Kind × List ℕ) Wrong
placed last None text = Err wrongs.Unknown
placed last (Some kind) text = if may_follow last kind then Ok (kind, text) else Err wrongs.Place

abbrev pub kind_by : Option Kind → Option (List ℕ × List ℕ) → Result (Kind × List ℕ) Wrong
kind_by last None = Err wrongs.Unknown
kind_by last (Some (word, text)) = placed last (kind_of word) text

unfoldable pub kind_in : Option Kind → List ℕ → Result (Kind × List ℕ) Wrong
kind_in last line = if is_utf8 line then kind_by last (cut 44 line) else Err wrongs.NoText

-- the kind of the last line so far, and what was read
abbrev pub SoFar : Type 0
SoFar = Option Kind × Read

abbrev pub behind_line : Kind → Result Read Wrong → Result SoFar Wrong
behind_line kind (Err wrong) = Err wrong
behind_line kind (Ok own) = Ok (Some kind, own)

abbrev pub put_kind : Read → Result (Kind × List ℕ) Wrong → Result SoFar Wrong
put_kind so_far (Err wrong) = Err wrong
put_kind so_far (Ok (kind, text)) = behind_line kind (put_line kind text so_far)

-- what is read with one more line
unfoldable pub with_line : SoFar → List ℕ → Result SoFar Wrong
with_line so_far line = put_kind so_far.1 (kind_in so_far.0 line)

-- ---- all lines
-- a record, or the number of the first line with which something is wrong
abbrev pub Found : Type 0
Found = Result Read (ℕ × Wrong)

-- a record ends with what made the tracks
abbrev pub ended : ℕ → SoFar → Found
ended number (None, own) = Err (number, wrongs.Missing)
ended number (Some kinds.Tool, own) = Ok own
ended number (Some kind, own) = Err (number, wrongs.Missing)

-- what stands behind the last end of a line is nothing
abbrev pub all_read : ℕ → SoFar → List ℕ → Found
all_read number so_far last = if length last == 0 then ended number so_far else Err (number, wrongs.Unended)

abbrev pub then_read : ℕ → Result SoFar Wrong → (SoFar → Found) → Found
then_read number (Err wrong) more = Err (number, wrong)
then_read number (Ok so_far) more = more so_far

-- what lines say from one of this number on, behind what was read before
unfoldable pub read_from : ℕ → SoFar → List (List ℕ) → Found
read_from number so_far [] = Err (number, wrongs.Missing)
read_from number so_far (line ∷ others) =
    if length others == 0 then all_read number so_far line
    else then_read number (with_line so_far line) (λ next. read_from (number + 1) next others)

-- the record that a text is
abbrev pub record_of : List ℕ → Found
record_of text = read_from 1 (None, nothing) (parts text)

-- ---- faults
-- why a line is not taken: memory ran out, or something is wrong with it
abbrev pub IsFaultOf : {A : Type 0} → Result A Wrong → LineFault → Type 0
IsFaultOf found fault = (fault ≡ line_faults.OutOfMemory) ⊎ ((wrong : Wrong) × (found ≡ Err wrong) × (fault ≡ line_faults.Wrong wrong))

-- the same, of the line of this number
abbrev pub at_line : ℕ → LineFault → RecordFault
at_line number line_faults.OutOfMemory = faults.OutOfMemory
at_line number (line_faults.Wrong wrong) = faults.Line number wrong

-- why a text is no record: memory ran out, or something is wrong with a line
abbrev pub IsRefusal : Found → RecordFault → Type 0
IsRefusal found fault =
    (fault ≡ faults.OutOfMemory) ⊎ ((number : ℕ) × (wrong : Wrong) × (found ≡ Err (number, wrong)) × (fault ≡ faults.Line number wrong))
