use Rattle.std.proofs.Common.{◌≡◌, ◌+◌, ◌++◌, ◌∷◌, ℕ, List, length, map, arith, ap, ◌∙◌}
use Rattle.std.specs.List.Sorted.{IsPermutation}
use Rattle.std.proofs.lemmas.List.{length-append}
use Rattle.std.proofs.lemmas.List.Sorted.{length_permutation}
use Rattle.range_stats.specs.Keys.{index_in}
use Rattle.range_stats.proofs.Selected.{cut_more}
use Rattle.range_stats.proofs.cuts.+push_cut.Goals as goal

-- a list in parts, of which one is a single key
size_of_parts : (keys before after : List ℕ) (key : ℕ) → IsPermutation keys (before ++ key ∷ after) → length keys ≡ length before + length after + 1
size_of_parts keys before after key moved = omega (arith, length_permutation keys (before ++ key ∷ after) moved, length-append before (key ∷ after))

pub push_cut-requires : goal.push_cut-requires
push_cut-requires g t c κs within =
    let parts = c.select_nth_unstable-nearest.result in
    let size = size_of_parts c.args.keys.now parts.0.now parts.2.now parts.1.now c.select_nth_unstable-nearest.ensures.permutation in
    (omega (arith, size), (within, (c.requires.few, omega (arith, size, c.requires.room))))

pub push_indices-requires-2 : goal.push_indices-requires-2
push_indices-requires-2 g t c =
    let parts = c.select_nth_unstable-nearest.result in
    let size = size_of_parts c.args.keys.now parts.0.now parts.2.now parts.1.now c.select_nth_unstable-nearest.ensures.permutation in
    omega (arith, size, c.requires.room, c.push_cut.ensures.len, c.push_cut.ensures.capacity, c.push_reserved.ensures.len, c.push_reserved.ensures.capacity)

pub returns : goal.returns
returns g t c =
    let parts = c.select_nth_unstable-nearest.result in
    let size = size_of_parts c.args.keys.now parts.0.now parts.2.now parts.1.now c.select_nth_unstable-nearest.ensures.permutation in
    let new = c.push_indices-2.new.indices.items in
    record {
      items = cut_more c.args.count c.args.levels.now c.args.keys.now parts.0.now parts.2.now parts.1.now c.in-Some.kept c.args.indices.now.items
          c.push_cut.new.indices.items c.index_in.result new c.select_nth_unstable-nearest.ensures.permutation
          c.select_nth_unstable-nearest.ensures.partitioned c.select_nth_unstable-nearest.ensures.front_len c.in-Some.ensures.1 c.push_cut.ensures.items
          c.index_in.ensures (c.push_indices-2.ensures.items ∙ ap (λ l. l ++ map index_in parts.2.now) c.push_reserved.ensures.items);
      len = omega (arith, size, c.push_cut.ensures.len, c.push_reserved.ensures.len, c.push_indices-2.ensures.len);
      capacity = omega (arith, c.push_cut.ensures.capacity, c.push_reserved.ensures.capacity, c.push_indices-2.ensures.capacity);
    }
