use Rattle.std.proofs.Common.{◌≡◌, ◌∙◌, ◌&&◌, true, sym}
use Rattle.std.proofs.lemmas.Bool.{and_parts}
use Rattle.range_numbers.proofs.Pairs.{no_number_of_parts, number_of_parts}
use Rattle.range_numbers.specs.Groups.{are_small}
use Rattle.range_numbers.proofs.groups.pair_value.Goals as goal

pub returns-then-are_small : goal.returns-then-are_small
returns-then-are_small c =
    let first = c.group_at-first.result in
    let last = c.group_at-last.result in
    let small : (are_small first && are_small last) ≡ true = sym c.are_small.ensures ∙ c.if-are_small.true in
    let parts = number_of_parts c.args.bytes.now first last c.requires.least c.requires.most c.group_at-first.ensures c.group_at-last.ensures
    ((and_parts (are_small first) (are_small last) small).0) ((and_parts (are_small first) (are_small last) small).1) in
    (parts.0, c.from.ensures ∙ c.weighted_sum.ensures ∙ parts.1)

pub returns-else-are_small : goal.returns-else-are_small
returns-else-are_small c =
    no_number_of_parts c.args.bytes.now c.group_at-first.result c.group_at-last.result c.group_at-first.ensures c.group_at-last.ensures
    (sym c.are_small.ensures ∙ c.if-are_small.false)
