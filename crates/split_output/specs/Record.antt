-- The record of the tracks of a split.
use Rattle.std.specs.Prelude.{◌≡◌, ℕ, List, length, map}
use Rattle.hex.specs.Hex.{encode_lower}
use Rattle.sha2.specs.Sha256.{sha256}
use Rattle.split_counts.specs.Counts.{left_counts}
use Rattle.split_export.specs.Export.{bytes_of}
use Rattle.split_export.specs.Files.{Filed}
use Rattle.split_record.specs.Lines.{record_text}
use Rattle.split_record.specs.declared.record.Record.{Record}
use Rattle.split_record.specs.declared.record.TrackMade.{TrackMade}
use Rattle.split_tracks.specs.declared.fate.Fate.{Fate}
use Rattle.split_chain.specs.declared.chain.Split.{Split}
use Rattle.split_output.specs.declared.origin.Origin.{Origin}
use Rattle.split_output.specs.Files.{files_of_tracks}
use Rattle.split_output.specs.Left.{AreByName, LeftOut, all_left, left_out}

-- what a line says of a track: the name of its file, its records, those that are used, and the checksum of its text
pub record Track : Type 0 where
  pub name : List ℕ
  pub records : ℕ
  pub used : ℕ
  pub sum : List ℕ

-- what is seen of such a line
abbrev pub track_seen : TrackMade → Track
track_seen track = record { name = track.name.now; records = track.records; used = track.used; sum = track.sum }

-- what such a line says of a file
abbrev pub track_of : Filed → Track
track_of file = record { name = file.name; records = file.records; used = file.used; sum = encode_lower (sha256 file.text) }

-- lines say what the counts of a split have of records with these fates, animals by the names of their files
pub record SayLeft (split : Split) (fates : List Fate) (lines : List LeftOut) : Type 0 where
  pub ranked : List (ℕ × List ℕ)
  pub are_by_name : AreByName (map (λ file. file.name.items) split.files.items) ranked
  pub are_left : lines ≡ all_left fates ranked

-- a record says what a split is, and of what it was made and by what
pub record IsOfSplit (origin : Origin) (split : Split) («record» : Record) : Type 0 where
  pub exports : «record».exports.now ≡ origin.exports.now
  pub unit : «record».unit ≡ origin.unit
  pub zone : «record».zone ≡ split.grid.zone
  pub shift : «record».shift ≡ split.grid.shift
  pub options : «record».options.now ≡ origin.options.now
  pub said : map (λ line. line.now) «record».said.now ≡ bytes_of split.said.lines.items
  pub left : (fates : List Fate) → split.counts.items ≡ left_counts (length split.files.items) fates → SayLeft split fates (map left_out «record».left.now)
  pub tracks : map track_seen «record».tracks.now ≡ map track_of (files_of_tracks split)
  pub tool : «record».tool.now ≡ origin.tool.now

-- a text is that of such a record
abbrev pub IsTextOf : Origin → Split → List ℕ → Type 0
IsTextOf origin split text = («record» : Record) × (text ≡ record_text «record») × IsOfSplit origin split «record»
