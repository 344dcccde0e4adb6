use Rattle.std.proofs.Common.{◌≡◌, ◌++◌, ℤ, take}
use Rattle.std.specs.BTreeSet.{contains}
use Rattle.std.specs.List.{list_any}
use Rattle.std.specs.Ordering.{int_cmp, int_eq}
use Rattle.split_pace.specs.Filters.{left_of, parted}
use Rattle.split_pace.specs.Every.{is_first, piece_of}
use Rattle.split_pace.proofs.filter.push_repeated.Given as goal

abbrev pub invariant-loop-entry : goal.invariant-loop-entry
invariant-loop-entry g l = record {
  records : l.left.items ≡ l.fn.left.items ++ left_of (is_first (piece_of l.length l.clock.zone)) (take l.entry-index l.track);
  seen : (piece : ℤ) → contains int_cmp l.pieces piece ≡ list_any (λ before. int_eq (piece_of l.length l.clock.zone before) piece) (parted (is_first (piece_of l.length l.clock.zone)) (take l.entry-index l.track)).kept;
}
