-- The lines of a record of tracks.
use Rattle.std.specs.Prelude.{ℕ, ℤ, pos, Bool, true, false, ◌&&◌, if◌then◌else◌, List, [], ◌∷◌, ◌++◌, codes, decimal, map, Option, Some, None, option_map}
use Rattle.std.specs.Fmt.{signed_decimal}
use Rattle.std.specs.List.{flat_map}
use Rattle.std.specs.Ordering.{int_eq}
use Rattle.range_plane.specs.declared.scale.Scale.{Scale}
use Rattle.range_plane.specs.declared.scale.Scale.TheVariants.{Metre, Decimetre}
use Rattle.split_reading.specs.declared.zone.Zone.{Zone}
use Rattle.split_tracks.specs.declared.fate.Reason.{Reason}
use Rattle.split_tracks.specs.declared.fate.Reason.TheVariants as reasons
use Rattle.split_record.specs.declared.record.ExportRead.{ExportRead}
use Rattle.split_record.specs.declared.record.Left.{Left}
use Rattle.split_record.specs.declared.record.OptionGiven.{OptionGiven}
use Rattle.split_record.specs.declared.record.Record.{Record}
use Rattle.split_record.specs.declared.record.TrackMade.{TrackMade}
use Rattle.split_record.specs.OneLine.{doubled, one_line}

-- a field in one line, behind a comma
abbrev pub field_text : List ℕ → List ℕ
field_text field = codes "," ++ one_line field

-- a line as it is read: its kind, and its fields
abbrev pub line_text : List (List ℕ) → List ℕ
line_text [] = []
line_text (kind ∷ fields) = one_line kind ++ flat_map field_text fields

-- a line as it is written
abbrev pub text_of_line : List (List ℕ) → List ℕ
text_of_line line = line_text line ++ codes "\n"

-- lines as they are written
abbrev pub text_of_all : List (List (List ℕ)) → List ℕ
text_of_all lines = flat_map text_of_line lines

-- an export, and the checksum of its bytes
abbrev pub export_line : List ℕ → List (List ℕ)
export_line export = codes "export" ∷ export ∷ []

abbrev pub sum_line : List ℕ → List (List ℕ)
sum_line sum = codes "sha256" ∷ sum ∷ []

abbrev pub export_lines : ExportRead → List (List (List ℕ))
export_lines export = export_line export.name.now ∷ sum_line export.sum ∷ []

-- the unit
abbrev pub unit_word : Scale → List ℕ
unit_word Metre = codes "m"
unit_word Decimetre = codes "dm"

abbrev pub unit_line : Scale → List (List ℕ)
unit_line unit = codes "unit" ∷ unit_word unit ∷ []

-- the zone, as in `33N`
abbrev pub hemisphere : Bool → List ℕ
hemisphere false = codes "N"
hemisphere true = codes "S"

abbrev pub zone_word : Option Zone → List ℕ
zone_word None = codes "none"
zone_word (Some zone) = decimal zone.number ++ hemisphere zone.is_south

abbrev pub zone_line : Option Zone → List (List ℕ)
zone_line zone = codes "zone" ∷ zone_word zone ∷ []

-- the shift, where there was one
abbrev pub shift_line : ℤ → ℤ → List (List ℕ)
shift_line east north = codes "shift" ∷ signed_decimal east ∷ signed_decimal north ∷ []

abbrev pub shift_lines : ℤ → ℤ → List (List (List ℕ))
shift_lines east north = if int_eq east (pos 0) && int_eq north (pos 0) then [] else shift_line east north ∷ []

-- an option, and its value where it has one
abbrev pub value_fields : Option (List ℕ) → List (List ℕ)
value_fields None = []
value_fields (Some value) = doubled value ∷ []

abbrev pub option_line : OptionGiven → List (List ℕ)
option_line given = codes "option" ∷ given.name.now ∷ value_fields (option_map (λ value. value.now) given.value)

-- a line said
abbrev pub said_line : List ℕ → List (List ℕ)
said_line line = codes "said" ∷ line ∷ []

-- what a reason is called
abbrev pub reason_words : Reason → List ℕ
reason_words reasons.Animal = codes "animal"
reason_words reasons.Coordinates = codes "coordinates"
reason_words reasons.Zero = codes "zero"
reason_words reasons.Sensor = codes "sensor"
reason_words reasons.Outlier = codes "outlier"
reason_words reasons.Class = codes "class"
reason_words reasons.NoDop = codes "no dop"
reason_words reasons.Dop = codes "dop"
reason_words reasons.Type = codes "type"
reason_words reasons.Before = codes "before"
reason_words reasons.After = codes "after"
reason_words reasons.Grid = codes "grid"
reason_words reasons.Speed = codes "speed"
reason_words reasons.Every = codes "every"

-- what was left out of an animal for a reason
abbrev pub left_line : Left → List (List ℕ)
left_line left = codes "left" ∷ left.name.now ∷ decimal left.count ∷ reason_words left.reason ∷ []

-- a track
abbrev pub track_line : TrackMade → List (List ℕ)
track_line track = codes "track" ∷ track.name.now ∷ decimal track.records ∷ decimal track.used ∷ track.sum ∷ []

-- what made the tracks
abbrev pub tool_line : List ℕ → List (List ℕ)
tool_line tool = codes "tool" ∷ tool ∷ []

-- the lines of exports
abbrev pub lines_of_exports : List ExportRead → List (List (List ℕ))
lines_of_exports exports = flat_map export_lines exports

-- the lines before those of options
abbrev pub head_lines : Record → List (List (List ℕ))
head_lines «record» =
    lines_of_exports «record».exports.now ++ unit_line «record».unit ∷ zone_line «record».zone ∷ shift_lines «record».shift.0 «record».shift.1

-- all lines of a record
abbrev pub lines_of : Record → List (List (List ℕ))
lines_of «record» =
    head_lines «record» ++ map option_line «record».options.now ++ map (λ line. said_line line.now) «record».said.now
    ++ map left_line «record».left.now ++ map track_line «record».tracks.now ++ tool_line «record».tool.now ∷ []

-- the text of a record
abbrev pub record_text : Record → List ℕ
record_text «record» = text_of_all (lines_of «record»)
