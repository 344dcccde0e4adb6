use Rattle.std.proofs.Common.{rules}
use Rattle.std.proofs.lemmas.List.Sorted.{length_permutation}
use Rattle.split_doubts.specs.Gaps.{far_side}
use Rattle.split_doubts.proofs.Found.{found_at_side}
use Rattle.split_doubts.proofs.far.far_fixes.Goals as goal

pub returns : goal.returns
returns g c =
    let sorted = c.in_ok-sorted.sorted.items in (
      sorted,
      c.in_ok-sorted.ensures.same,
      c.in_ok-sorted.ensures.sorted,
      found_at_side c.args.unit c.args.axis c.args.track.now c.in-Some.side _ (far_side c.args.unit sorted) (search rules) (
        c.in_ok-records.ensures.same,
        c.in_ok-records.ensures.sorted,
        search (rules, length_permutation),
        search rules,
      ),
    )
