-- The options of a maker's preset.
use Rattle.std.specs.Prelude.{Bool, not, if◌then◌else◌, Option, Some, is_some}
use Rattle.std.specs.Option.{option_or}
use Rattle.split_titles.specs.declared.presets.Preset.{Preset}
use Rattle.split_words.specs.declared.preset.Texts.{Texts}

-- a value that was given, or else that of a preset, where that is taken
abbrev pub value_or : {T : Type 0} → Option T → Bool → Option T → Option T
value_or given is_taken of_preset = if is_taken then option_or given of_preset else given

-- the values that were given, and of the others those of a preset: its coordinates not beside a given easting, and its
-- forms of times not beside a given time
abbrev pub with_preset : Texts → Bool → Preset → Texts
with_preset given has_easting preset = record {
  header = option_or given.header preset.header;
  animal = option_or given.animal preset.animal;
  time = option_or given.time (Some preset.time);
  time_format = value_or given.time_format (not (is_some given.time)) preset.time_format;
  lon = value_or given.lon (not has_easting) (Some preset.lon);
  lat = value_or given.lat (not has_easting) (Some preset.lat);
  dop = option_or given.dop preset.dop;
  fix = option_or given.fix preset.fix;
  argos = option_or given.argos preset.argos;
  na = option_or given.na preset.na;
}
