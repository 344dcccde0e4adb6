use Rattle.std.proofs.Common.{w64}
use Rattle.std.proofs.lemmas.Int.{to_z-of_z}
use Rattle.range_lanes.proofs.extent.extremes.Goals as goal

pub returns-clause-extent : goal.returns-clause-extent
returns-clause-extent g c =
    let west = to_z-of_z w64 c.least_of.result (record { sfits = c.least_of.type_inv }) in
    let south = to_z-of_z w64 c.least_of-2.result (record { sfits = c.least_of-2.type_inv }) in
    let east = to_z-of_z w64 c.greatest_of.result (record { sfits = c.greatest_of.type_inv }) in
    let north = to_z-of_z w64 c.greatest_of-2.result (record { sfits = c.greatest_of-2.type_inv }) in
    rw (west, south, east, north) (record {
      min_e = rw (← c.eastings-eastings.ensures.value) c.least_of.ensures;
      min_n = rw (← c.northings-northings.ensures.value) c.least_of-2.ensures;
      max_e = rw (← c.eastings-eastings.ensures.value) c.greatest_of.ensures;
      max_n = rw (← c.northings-northings.ensures.value) c.greatest_of-2.ensures;
    })
