use Rattle.std.proofs.Common.{◌≡◌, ◌+◌, ◌-◌, ◌≤◌, Some, IfSome}
use Rattle.range_plane.specs.Fix.{fix_limit}
use Rattle.range_fixes.specs.CheckedRecords.{IsGoing, used_ahead}
use Rattle.range_fixes.specs.Progress.{IsTaken}
use Rattle.range_fixes.proofs.checked_records.CheckedRecords.next_used.Given as goal

abbrev pub invariant-loop-one : goal.invariant-loop-one
invariant-loop-one g l = record {
  going : IsGoing l.self;
  count : l.fn.self.count ≤ l.self.count;
  unused : IfSome (used_ahead l.fn.self.ahead) (λ all. used_ahead l.self.ahead ≡ Some all);
  taken : IsTaken l.fn.self.left (l.self.count - l.fn.self.count) l.self.left;
  animal : IfSome l.fn.self.animal (λ name. l.self.animal ≡ Some name);
}

abbrev pub decreases-loop-one : goal.decreases-loop-one
decreases-loop-one g l = fix_limit + 1 - l.self.count
