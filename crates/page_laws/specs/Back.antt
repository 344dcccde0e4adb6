-- What the report of an analysis says.
use Rattle.std.specs.Prelude.{map}
use Rattle.range_plane.specs.Plane.{Position}
use Rattle.range_analysis.specs.declared.analysis.Analysis.{Analysis}
use Rattle.range_analysis.specs.declared.animal.Animal.{Animal}
use Rattle.range_analysis.specs.declared.animal.OverlapRow.{OverlapRow}
use Rattle.page_report.specs.Reading.{Read, Said}
use Rattle.page_report.specs.declared.corner.Corner.{Corner}
use Rattle.page_report.specs.declared.overlaps.Overlap.{Overlap}

-- a corner of a polygon
abbrev pub corner_from : Position → Corner
corner_from corner = record { easting = corner.e; northing = corner.n }

-- an animal: its name, the box of its fixes, a row for each, the corners of its polygon, and its percent polygons
abbrev pub animal_from : Animal → Said
animal_from animal = record {
  name = animal.name;
  extent = animal.extent;
  rows = animal.rows;
  corners = map corner_from animal.polygon;
  percents = animal.percents;
}

-- the overlap of two animals
abbrev pub overlap_from : OverlapRow → Overlap
overlap_from row = record { animal = row.animal; range = row.range; count = row.count; fixes = row.fixes }

-- a report: the unit of an analysis, its animals, and the overlap of each two of them
abbrev pub report_from : Analysis → Read
report_from analysis = record { unit = analysis.unit; animals = map animal_from analysis.animals; overlaps = map overlap_from analysis.overlaps }
