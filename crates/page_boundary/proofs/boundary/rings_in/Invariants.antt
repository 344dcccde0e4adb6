use Rattle.std.proofs.Common.{◌≡◌, ◌≤◌, ◌+◌, [], length}
use Rattle.page_report.specs.Reading.{parts}
use Rattle.page_boundary.specs.Rings.{places_of, rings_from}
use Rattle.page_boundary.proofs.boundary.rings_in.Given as goal

abbrev pub invariant-loop-line : goal.invariant-loop-line
invariant-loop-line l = record {
  so_far : rings_from [] 2 (parts l.text) ≡ rings_from (places_of l.rings.items) l.number (parts l.rest);
  few : l.number + length l.rest ≤ length l.text + 2;
}

abbrev pub decreases-loop-line : goal.decreases-loop-line
decreases-loop-line l = length l.rest
