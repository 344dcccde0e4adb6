use Rattle.std.proofs.Common.{◌≡◌, ◌<◌, ◌++◌, ◌%◌, ◌-◌, ◌/◌, OnOk, arith, append-nil, append_assoc, ap, ◌∙◌, subst, sym}
use Rattle.page_text.specs.Figures.{digit}
use Rattle.page_tables.specs.Numbers.{padded}
use Rattle.page_tables.proofs.NumberFacts.{padded_more, padded_none}
use Rattle.page_tables.proofs.numbers.+push_padded.Goals as goal

pub returns-then-places-eq0 : goal.returns-then-places-eq0
returns-then-places-eq0 t c =
    let none : c.args.places ≡ 0 = omega arith in
    rw (padded_none c.args.places c.args.number none) (sym (append-nil c.args.text.now.items))

pub returns : goal.returns
returns t c =
    let some : 0 < c.args.places = omega arith in
    let text = c.args.text.now.items in
    let before = padded (c.args.places - 1) (c.args.number / 10) in
    let last = digit (c.args.number % 10) in
    let all : c.push_padded.new.text.items ++ last ≡ text ++ padded c.args.places c.args.number =
    ap (λ l. l ++ last) c.in_ok-push_padded.ensures ∙ append_assoc text before last ∙ ap (λ l. text ++ l) (sym (padded_more c.args.places c.args.number some)) in
    subst (λ l. OnOk c.push_digit.result (c.push_digit.new.text.items ≡ l)) all c.push_digit.ensures
