use Rattle.std.proofs.Common.{◌≡◌, ◌<◌, ◌≤◌, true, false, get_or, length, map, ap, sym, ◌∙◌, arith}
use Rattle.std.proofs.lemmas.List.{get_or-map, length-map}
use Rattle.range_estimator.specs.declared.row.Row.{Row}
use Rattle.page_facts.specs.Growth.{is_within}
use Rattle.page_facts.proofs.GrowthFacts.{behind_one, stays_on, stays_to_the_end}
use Rattle.page_facts.proofs.growth.before_within.Goals as goal
use Rattle.page_facts.proofs.growth.before_within.Goals.{then-not-is_within, else-not-is_within}

-- a row that is not there
abbrev none : Row
none = record { second = 0; corners = 0; area2 = 0 }

pub loop-place-preserved : goal.loop-place-preserved
loop-place-preserved c =
    let rows = c.args.rows.now in
    let areas = map (λ (row : Row). row.area2) rows in
    let place = c.loop-place.place in
    let below : place < length rows = omega arith in
    let within : place < length areas = omega (arith, length-map rows (λ (row : Row). row.area2)) in
    let own : get_or areas place 0 ≡ (get_or rows place none).area2 = get_or-map (λ (row : Row). row.area2) rows place none 0 below in
    elim c.if-not-is_within.branch [
      | then-not-is_within w ↦
          let is : is_within c.args.last (get_or areas place 0) ≡ false = ap (is_within c.args.last) own ∙ sym c.is_within.ensures ∙ w.if-not-is_within.true in
          record {
            stands = rw w.before-is (behind_one c.args.last areas place within is);
            so_far = omega arith;
            stays = λ k low high. absurd (omega (arith, low, high, w.before-is));
          }
      | else-not-is_within w ↦
          let is : is_within c.args.last (get_or areas place 0) ≡ true = ap (is_within c.args.last) own ∙ sym c.is_within.ensures ∙ w.if-not-is_within.false in
          record {
            stands = rw w.before-is c.loop-place.invariant.stands;
            so_far = omega arith;
            stays = rw w.before-is (stays_on c.args.last areas c.loop-place.before place c.loop-place.invariant.stays is);
          }
    ]

pub returns-clause-value : goal.returns-clause-value
returns-clause-value c =
    let rows = c.args.rows.now in
    let ended : length (map (λ (row : Row). row.area2) rows) ≤ c.loop-place.place = omega (arith, length-map rows (λ (row : Row). row.area2)) in
    stays_to_the_end c.args.last (map (λ row. row.area2) rows) c.loop-place.before c.loop-place.place ended c.loop-place.invariant.stays c.loop-place.invariant.stands
