use Rattle.std.proofs.Common.{◌≡◌, true, false, ◌+◌, ◌-◌, ◌++◌, length, sym, ap, ◌∙◌, arith}
use Rattle.std.specs.List.{list_any}
use Rattle.std.specs.Str.{bytes_eq}
use Rattle.split_names.specs.Names.{bytes_of, folded, is_among, numbered_from, with_number}
use Rattle.split_names.proofs.Naming.{number_found, number_last, number_later}
use Rattle.split_names.proofs.numbered.numbered.Goals as goal

pub returns-then-not-is_taken : goal.returns-then-not-is_taken
returns-then-not-is_taken c =
    let taken = bytes_of c.args.first.now ++ bytes_of c.args.others.now in
    let count = length c.args.first.now + length c.args.others.now in
    let tried = c.loop-tried.tried in
    let own = c.in_ok-found.ensures in
    let asked : is_among taken (with_number c.args.name.now (tried + 2)) ≡ false =
    ap (λ key. list_any (bytes_eq key) taken) (sym own.folded ∙ sym c.deref.ensures.value) ∙ (sym c.is_taken.ensures ∙ c.if-not-is_taken.true)
    in
    record {
      name = own.name
          ∙ (sym (number_found (count - tried) (count - (tried + 1)) (tried + 2) taken c.args.name.now (omega (arith, c.loop-tried-test.true)) asked)
          ∙ c.loop-tried.invariant);
      folded = own.folded ∙ ap folded (sym own.name);
    }

pub loop-tried-preserved : goal.loop-tried-preserved
loop-tried-preserved c =
    let taken = bytes_of c.args.first.now ++ bytes_of c.args.others.now in
    let count = length c.args.first.now + length c.args.others.now in
    let tried = c.loop-tried.tried in
    let own = c.in_ok-found.ensures in
    let asked : is_among taken (with_number c.args.name.now (tried + 2)) ≡ true =
    ap (λ key. list_any (bytes_eq key) taken) (sym own.folded ∙ sym c.deref.ensures.value) ∙ (sym c.is_taken.ensures ∙ c.if-not-is_taken.false)
    in
    let next : tried + 1 + 2 ≡ tried + 2 + 1 = omega arith in
    ap (λ n. numbered_from (count - (tried + 1)) n taken c.args.name.now) next
    ∙ (sym (number_later (count - tried) (count - (tried + 1)) (tried + 2) taken c.args.name.now (omega (arith, c.loop-tried-test.true)) asked)
    ∙ c.loop-tried.invariant)

pub returns-clause-name : goal.returns-clause-name
returns-clause-name c =
    let taken = bytes_of c.args.first.now ++ bytes_of c.args.others.now in
    let count = length c.args.first.now + length c.args.others.now in
    let tried = c.loop-tried.tried in
    let all : count ≡ tried = omega (arith, c.loop-tried-test.false, c.loop-tried.auto.tried-end) in
    c.in_ok-found_with.ensures.name
    ∙ (ap (λ n. with_number c.args.name.now (n + 2)) all
    ∙ (sym (number_last (count - tried) (tried + 2) taken c.args.name.now (omega (arith, all))) ∙ c.loop-tried.invariant))
