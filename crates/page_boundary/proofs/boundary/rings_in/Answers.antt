use Rattle.std.proofs.Common.{◌≡◌, ◌∙◌, ◌==◌, [], true, false, length, Some, None, arith, rules, refl, ap, inr}
use Rattle.page_report.specs.Fields.{◌>>=◌, cut}
use Rattle.page_report.specs.Reading.{parts}
use Rattle.page_boundary.specs.Points.{RingPlace, place_of, point_in}
use Rattle.page_boundary.specs.Rings.{added, places_of, rings_from}
use Rattle.page_boundary.proofs.Following.{line_refused, line_taken, text_ends}
use Rattle.page_boundary.proofs.boundary.rings_in.Goals as goal

pub returns-in_default-point_in-clause-fault : goal.returns-in_default-point_in-clause-fault
returns-in_default-point_in-clause-fault c =
    let rings = places_of c.loop-line.rings.items in
    let found = rings_from [] 2 (parts c.args.text.now) in
    let first : cut 10 c.loop-line.rest.now ≡ Some (c.in-Some.line.now, c.in-Some.behind.now) = search rules in
    let none : point_in c.in-Some.line.now ≡ None = search rules in
    inr (
      c.loop-line.number,
      line_refused rings c.loop-line.number c.loop-line.rest.now found c.loop-line.invariant.so_far c.in-Some.line.now c.in-Some.behind.now first
          (ap (λ own. own >>= added rings) none),
      refl,
    )

pub returns-then-not-branch-clause-fault : goal.returns-then-not-branch-clause-fault
returns-then-not-branch-clause-fault c =
    let rings = places_of c.loop-line.rings.items in
    let found = rings_from [] 2 (parts c.args.text.now) in
    let point : RingPlace = (c.in-Some-point_in.point.ring, place_of c.in-Some-point_in.point.at) in
    let first : cut 10 c.loop-line.rest.now ≡ Some (c.in-Some.line.now, c.in-Some.behind.now) = search rules in
    let some : point_in c.in-Some.line.now ≡ Some point = search rules in
    let no : c.in_ok-add_point.field-0 ≡ false = search rules in
    let refused : added rings point ≡ None = rw no at c.in_ok-add_point.ensures in
    inr (
      c.loop-line.number,
      line_refused rings c.loop-line.number c.loop-line.rest.now found c.loop-line.invariant.so_far c.in-Some.line.now c.in-Some.behind.now first
          (ap (λ own. own >>= added rings) some ∙ refused),
      refl,
    )

pub loop-line-preserved : goal.loop-line-preserved
loop-line-preserved c =
    let rings = places_of c.loop-line.rings.items in
    let more = places_of c.add_point.new.rings.items in
    let found = rings_from [] 2 (parts c.args.text.now) in
    let point : RingPlace = (c.in-Some-point_in.point.ring, place_of c.in-Some-point_in.point.at) in
    let first : cut 10 c.loop-line.rest.now ≡ Some (c.in-Some.line.now, c.in-Some.behind.now) = search rules in
    let some : point_in c.in-Some.line.now ≡ Some point = search rules in
    let yes : c.in_ok-add_point.field-0 ≡ true = search rules in
    let taken : added rings point ≡ Some more = rw yes at c.in_ok-add_point.ensures in
    record {
      so_far = line_taken rings c.loop-line.number c.loop-line.rest.now found c.loop-line.invariant.so_far c.in-Some.line.now c.in-Some.behind.now more first
          (ap (λ own. own >>= added rings) some ∙ taken);
      few = omega (arith, c.in-Some.ensures.less, c.loop-line.invariant.few);
    }

pub returns-then-is_empty-clause-rings : goal.returns-then-is_empty-clause-rings
returns-then-is_empty-clause-rings c =
    let rings = places_of c.loop-line.rings.items in
    let none : cut 10 c.loop-line.rest.now ≡ None = search rules in
    let empty : (length c.loop-line.rest.now == 0) ≡ true = search rules in
    text_ends rings c.loop-line.number c.loop-line.rest.now (rings_from [] 2 (parts c.args.text.now)) c.loop-line.invariant.so_far none ∙ rw empty refl

pub returns-else-is_empty-clause-fault : goal.returns-else-is_empty-clause-fault
returns-else-is_empty-clause-fault c =
    let rings = places_of c.loop-line.rings.items in
    let none : cut 10 c.loop-line.rest.now ≡ None = search rules in
    let some : (length c.loop-line.rest.now == 0) ≡ false = search rules in
    inr (
      c.loop-line.number,
      text_ends rings c.loop-line.number c.loop-line.rest.now (rings_from [] 2 (parts c.args.text.now)) c.loop-line.invariant.so_far none ∙ rw some refl,
      refl,
    )
