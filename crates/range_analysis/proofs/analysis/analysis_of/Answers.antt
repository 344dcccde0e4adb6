use Rattle.std.proofs.Common.{◌≡◌, refl, ap, ◌∙◌, length, map, arith}
use Rattle.std.proofs.lemmas.List.{length-map}
use Rattle.std.proofs.lemmas.Slice.Zip.{AllZip-long}
use Rattle.range_analysis.specs.Overlaps.{points_of_each, row_of}
use Rattle.range_analysis.specs.Animals.{pairs}
use Rattle.range_analysis.specs.Tracks.{IsMeasuredOf}
use Rattle.range_analysis.proofs.Analyses.{all_known, animals_of, overlaps_of, rows_numbered}
use Rattle.range_analysis.proofs.analysis.analysis_of.Goals as goal

pub count_overlaps-requires-clause-files : goal.count_overlaps-requires-clause-files
count_overlaps-requires-clause-files g c =
    omega (
      arith,
      c.deref.ensures.len,
      c.args.tracks.ok,
      AllZip-long
          (IsMeasuredOf c.args.levels.now) c.args.tracks.items c.in_ok-measured.measured.items c.in_ok-measured.ensures,
      c.requires.files,
      c.in_ok-measured.measured.ok,
    )

pub count_overlaps-requires-clause-known : goal.count_overlaps-requires-clause-known
count_overlaps-requires-clause-known g c κs within = rw c.deref.ensures.value
    (all_known c.args.levels.now c.args.tracks.items c.in_ok-measured.measured.items c.in_ok-measured.ensures)

pub invariant_of-result : goal.invariant_of-result
invariant_of-result g c =
    let measured = c.in_ok-measured.measured.items in
    let rows : c.in_ok-overlaps.overlaps ≡ map (row_of (points_of_each measured)) (pairs (length measured)) =
    rw c.deref.ensures.value at c.in_ok-overlaps.ensures in
    let count : length c.in_ok-animals.animals ≡ length measured = ap length c.in_ok-animals.ensures ∙ length-map measured (λ m. m.animal) in
    record { numbered = rw (rows, count) (rows_numbered (points_of_each measured) (length measured)) }

pub returns-clause-animals : goal.returns-clause-animals
returns-clause-animals g c = rw c.in_ok-animals.ensures (animals_of c.args.levels.now c.args.tracks.items c.in_ok-measured.measured.items
    c.in_ok-measured.ensures)

pub returns-clause-overlaps : goal.returns-clause-overlaps
returns-clause-overlaps g c =
    let measured = c.in_ok-measured.measured.items in
    let tracks = c.args.tracks.items in
    let each = c.in_ok-measured.ensures in
    let rows : c.in_ok-overlaps.overlaps ≡ map (row_of (points_of_each measured)) (pairs (length measured)) =
    rw c.deref.ensures.value at c.in_ok-overlaps.ensures in
    let same = AllZip-long (IsMeasuredOf c.args.levels.now) tracks measured each in
    rw (rows, same) (overlaps_of c.args.levels.now tracks measured (length tracks) each)

pub returns-clause-unit : goal.returns-clause-unit
returns-clause-unit g c = refl
