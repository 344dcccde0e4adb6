use Rattle.std.proofs.Common.{◌≡◌, ◌∙◌, length, take, Some, None, Ok, true, arith, rules, sym, ap, subst}
use Rattle.std.proofs.lemmas.List.{length-take}
use Rattle.range_fixes.specs.Progress.{Answers, Moves}
use Rattle.range_fixes.specs.Reading.{reading}
use Rattle.page_levels.specs.Same.{IsUnread, fault_of}
use Rattle.page_levels.proofs.Tracks.{ended, fix_more, unread}
use Rattle.page_levels.proofs.track.fixes_of.Goals as goal

pub loop-fixes-init : goal.loop-fixes-init
loop-fixes-init c =
    let own = reading c.args.unit c.args.track.now in
    record {
      reads = c.new-reader.ensures.reads;
      fixes = c.new-fixes.ensures.items ∙ sym (ap (λ n. take n own.fixes) c.new-reader.ensures.count);
      few = omega (arith, c.new-reader.ensures.count);
    }

pub loop-fixes-preserved : goal.loop-fixes-preserved
loop-fixes-preserved c =
    let own = reading c.args.unit c.args.track.now in
    let before = c.loop-fixes.reader in
    let fix = c.in-Some.fix in
    let inv = c.loop-fixes.invariant in
    let moves : Moves before (Ok (Some fix)) c.next.new.self = subst (λ o. Moves before (Ok o) c.next.new.self) c.in-Some.is c.in_ok-fix.ensures.moves in
    let there : Answers own before.count (Ok (Some fix)) =
    subst (λ o. Answers own before.count (Ok o)) c.in-Some.is (c.in_ok-fix.ensures.text own inv.reads) in
    record {
      reads = c.in_ok-fix.ensures.reads own inv.reads;
      fixes = fix_more own.fixes c.loop-fixes.fixes.items c.push.new.self.items before.count c.next.new.self.count fix inv.fixes there
          c.in_ok-push.ensures.items moves.counted;
      few = c.in_ok-fix.ensures.limit;
    }

pub returns-in_err-fix-clause-fault : goal.returns-in_err-fix-clause-fault
returns-in_err-fix-clause-fault c =
    let own = reading c.args.unit c.args.track.now in
    let why : IsUnread c.args.name.now own (fault_of c.in_err-fix.field-0.0) =
    unread c.args.name.now own c.loop-fixes.reader.count c.in_err-fix.field-0.0 (c.in_err-fix.ensures.text own c.loop-fixes.invariant.reads) in
    search rules

pub returns-then-is_named-clause-track : goal.returns-then-is_named-clause-track
returns-then-is_named-clause-track c =
    let own = reading c.args.unit c.args.track.now in
    let before = c.loop-fixes.reader in
    let none : c.in_ok-fix.field-0 ≡ None = search rules in
    let end = ended own before c.next.new.self c.loop-fixes.fixes.items (c.in_ok-fix.ensures.reads own c.loop-fixes.invariant.reads)
    (subst (λ o. Moves before (Ok o) c.next.new.self) none c.in_ok-fix.ensures.moves)
    (subst (λ o. Answers own before.count (Ok o)) none (c.in_ok-fix.ensures.text own c.loop-fixes.invariant.reads)) c.loop-fixes.invariant.fixes in
    record {
      whole = end.whole;
      animal = end.animal ∙ sym c.name.ensures.name ∙ c.is_named.ensures.0 c.if-is_named.true;
      all = end.all;
    }

pub returns-then-is_named-clause-few : goal.returns-then-is_named-clause-few
returns-then-is_named-clause-few c =
    omega (arith, ap length c.loop-fixes.invariant.fixes, length-take c.loop-fixes.reader.count (reading c.args.unit c.args.track.now).fixes, c.loop-fixes.invariant.few)

pub returns-clause-fault : goal.returns-clause-fault
returns-clause-fault c = λ named.
    let own = reading c.args.unit c.args.track.now in
    let before = c.loop-fixes.reader in
    let none : c.in_ok-fix.field-0 ≡ None = search rules in
    let end = ended own before c.next.new.self c.loop-fixes.fixes.items (c.in_ok-fix.ensures.reads own c.loop-fixes.invariant.reads)
    (subst (λ o. Moves before (Ok o) c.next.new.self) none c.in_ok-fix.ensures.moves)
    (subst (λ o. Answers own before.count (Ok o)) none (c.in_ok-fix.ensures.text own c.loop-fixes.invariant.reads)) c.loop-fixes.invariant.fixes in
    let yes : c.is_named.result ≡ true = c.is_named.ensures.1 (c.name.ensures.name ∙ sym end.animal ∙ named) in
    cc (yes, c.if-is_named.false)
