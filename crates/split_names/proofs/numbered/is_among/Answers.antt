use Rattle.std.proofs.Common.{◌≡◌, true, false, ◌+◌, drop, sym, ap, ◌∙◌}
use Rattle.std.specs.List.{list_any}
use Rattle.std.specs.Str.{bytes_eq}
use Rattle.split_names.specs.Names.{bytes_of}
use Rattle.split_names.proofs.Lists.{any_first, any_later, bytes_left}
use Rattle.split_names.proofs.numbered.is_among.Goals as goal

pub returns-then-eq : goal.returns-then-eq
returns-then-eq c =
    let text = c.other-item.result in
    let i = c.loop-other.other-index in
    let test : bytes_eq c.args.key.now text.items ≡ true = ap (bytes_eq c.args.key.now) (sym c.as_slice.ensures.value) ∙ (sym c.eq.ensures ∙ c.if-eq.true) in
    sym (any_first (bytes_eq c.args.key.now) text.items (drop (i + 1) (bytes_of c.args.others.now)) test)
    ∙ (ap (list_any (bytes_eq c.args.key.now)) (sym (bytes_left c.args.others.now i text c.other-item.is c.loop-other-test.true)) ∙ c.loop-other.invariant)

pub loop-other-preserved : goal.loop-other-preserved
loop-other-preserved c =
    let text = c.other-item.result in
    let i = c.loop-other.other-index in
    let test : bytes_eq c.args.key.now text.items ≡ false = ap (bytes_eq c.args.key.now) (sym c.as_slice.ensures.value) ∙ (sym c.eq.ensures ∙ c.if-eq.false) in
    sym (any_later (bytes_eq c.args.key.now) text.items (drop (i + 1) (bytes_of c.args.others.now)) test)
    ∙ (ap (list_any (bytes_eq c.args.key.now)) (sym (bytes_left c.args.others.now i text c.other-item.is c.loop-other-test.true)) ∙ c.loop-other.invariant)
