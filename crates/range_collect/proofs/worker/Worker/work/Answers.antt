use Rattle.std.proofs.Common.{◌≡◌, ℕ, List, Contains, sym, subst, ap, ◌∙◌}
use Rattle.range_line.specs.declared.message.Message.{Message}
use Rattle.range_line.specs.LineEnds.{files_from, TakerView}
use Rattle.range_line.specs.Messages.{IsLawful}
use Rattle.range_collect.specs.Work.{EachHolds}
use Rattle.range_collect.proofs.worker.Worker.work.Given as given
use Rattle.range_collect.proofs.worker.Worker.work.Goals as goal
use Rattle.range_collect.proofs.worker.Worker.work.Goals.{in-None, in-Some+then-open-eq0, in-Some+else-open-eq0+in_default, After-drop-iterator}

pub give-requires-clause-next : goal.give-requires-clause-next
give-requires-clause-next g c =
    let inv = c.loop.invariant in
    let n = c.self.inside.stride in
    let t = ap (λ (v : TakerView). v.taken) c.in-Some-take.ensures.taken in
    let m : Message = c.in-Some-take.message in
    let files = inv.known ∙ ap (files_from n.first n.step) c.loop.estimators.ok.0 in
    λ κs live. (
      c.loop.taker.taken,
      record {
        of_line = subst (λ (l : List ℕ). Contains l m.file) files c.in-Some-take.ensures.of_line;
        lawful = subst (λ (ms : List Message). IsLawful ms m.file) t (c.in-Some-take.ensures.lawful m.file);
        holds = inv.holds;
      },
    )

pub loop-preserved : goal.loop-preserved
loop-preserved g c =
    let inv = c.loop.invariant in
    let n = c.self.inside.stride in
    let e = c.in-Some-take.ensures in
    let t = ap (λ (v : TakerView). v.taken) e.taken in
    record {
      line = e.line.0 ∙ inv.line;
      files = e.line.1 ∙ inv.files;
      live = e.line.2;
      known = e.line.1 ∙ (inv.known ∙ ap (files_from n.first n.step) (sym c.give.ensures.len));
      holds = subst (λ (ms : List Message). EachHolds n.first n.step ms c.give.new.estimators.items) (sym t)
          (c.give.ensures.holds c.loop.taker.taken inv.holds);
    }

-- the taker is left as it was where nothing was taken
left : (g : given.Over) (c : After-drop-iterator g) → c.match-next.taker ≡ c.loop.taker
left g c = elim c.match-next.branch as (λ _. c.match-next.taker ≡ c.loop.taker) [
  | in-None w ↦ w.taker-is
  | in-Some+then-open-eq0 w ↦ w.taker-is
  | in-Some+else-open-eq0+in_default w ↦ w.taker-is ∙ w.in_default.ensures.taken
]

pub invariant_of-result : goal.invariant_of-result
invariant_of-result g c =
    let inv = c.loop.invariant in
    let n = c.self.inside.stride in
    let same = left g c in (
      ap (λ (t : TakerView). t.files) same ∙ inv.known,
      subst (λ (t : TakerView). EachHolds n.first n.step t.taken c.loop.estimators.items) (sym same) inv.holds,
    )

pub returns : goal.returns
returns g c =
    let inv = c.loop.invariant in
    let same = left g c in
    record { line = (ap (λ (t : TakerView). t.line) same ∙ inv.line, ap (λ (t : TakerView). t.files) same ∙ inv.files) }
