use Rattle.std.proofs.Common.{◌≡◌, ◌-◌, ◌++◌, length, ap, ap₂, ◌∙◌, arith}
use Rattle.split_names.specs.Cut.{cut}
use Rattle.split_names.specs.Names.{ending, with_number}
use Rattle.split_names.proofs.numbered.with_number.Goals as goal

pub returns : goal.returns
unfolding with_number
returns c =
    let behind = c.in_ok-ending.ensures in
    let long : c.len.result ≡ length c.in_ok-ending.ending.items = omega (arith, c.len.ensures, c.in_ok-ending.ending.ok.0) in
    let most : c.saturating_sub.result ≡ 32 - length (ending c.args.number) = c.saturating_sub.ensures ∙ ap (λ n. 32 - n) (long ∙ ap length behind) in
    c.in_ok-extend_from_slice.ensures.items
    ∙ ap₂ (λ front back. front ++ back) (c.cut.ensures ∙ ap₂ cut most c.in_ok-own.ensures.items) (c.deref.ensures.value ∙ behind)
