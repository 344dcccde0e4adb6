use Rattle.std.proofs.Common.{◌≡◌, ◌∙◌, codes, true, false, Some, None, Ok, IfErr, IfOk, rules, refl, subst, sym, inr}
use Rattle.std.specs.Str.{bytes_eq}
use Rattle.page_report.specs.Fields.{cut}
use Rattle.page_boundary.specs.Rings.{IsFault, places_of}
use Rattle.page_boundary.proofs.Following.{no_line, titled, untitled}
use Rattle.page_boundary.proofs.boundary.read_boundary.Goals.{in_default-via-in-Some+else-eq, in_default-via-in_default}
use Rattle.page_boundary.proofs.boundary.read_boundary.Goals as goal

pub returns-in-Some-clause-rings : goal.returns-in-Some-clause-rings
returns-in-Some-clause-rings c =
    let text = c.args.text.now in
    let first : cut 10 text ≡ Some (c.in-Some.titles.now, c.in-Some.behind.now) = search rules in
    let yes : bytes_eq c.in-Some.titles.now (codes "ring,easting,northing") ≡ true = sym c.eq.ensures ∙ c.if-eq.true in
    subst (λ found. IfOk c.rings_in.result (λ rings. found ≡ Ok (places_of rings.items))) (sym (titled text c.in-Some.titles.now c.in-Some.behind.now first yes))
    c.rings_in.ensures.rings

pub returns-in-Some-clause-fault : goal.returns-in-Some-clause-fault
returns-in-Some-clause-fault c =
    let text = c.args.text.now in
    let first : cut 10 text ≡ Some (c.in-Some.titles.now, c.in-Some.behind.now) = search rules in
    let yes : bytes_eq c.in-Some.titles.now (codes "ring,easting,northing") ≡ true = sym c.eq.ensures ∙ c.if-eq.true in
    subst (λ found. IfErr c.rings_in.result (IsFault found)) (sym (titled text c.in-Some.titles.now c.in-Some.behind.now first yes)) c.rings_in.ensures.fault

pub returns-in_default-clause-fault : goal.returns-in_default-clause-fault
returns-in_default-clause-fault c =
    let text = c.args.text.now in
    elim c.in_default.branch [
      | in_default-via-in-Some+else-eq w ↦
          let first : cut 10 text ≡ Some (w.in-Some.titles.now, w.in-Some.behind.now) = search rules in
          let no : bytes_eq w.in-Some.titles.now (codes "ring,easting,northing") ≡ false = sym w.eq.ensures ∙ w.if-eq.false in
          inr (1, untitled text w.in-Some.titles.now w.in-Some.behind.now first no, refl)
      | in_default-via-in_default w ↦
          let none : cut 10 text ≡ None = search rules in
          inr (1, no_line text none, refl)
    ]
