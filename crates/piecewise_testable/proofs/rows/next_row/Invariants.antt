-- the places that the members so far give are marked
use Rattle.std.proofs.Common.{◌≡◌, ◌≤◌, ◌-◌, length}
use Rattle.piecewise_testable.proofs.Children.{AreChildrenBelow}
use Rattle.piecewise_testable.proofs.rows.next_row.Given as goal

abbrev pub invariant-loop-next : goal.invariant-loop-next
invariant-loop-next l = record {
  same : l.members.marks ≡ l.row;
  within : l.members.from ≤ length l.row;
  below : AreChildrenBelow l.letters l.letter l.row l.members.from l.next;
}

abbrev pub decreases-loop-next : goal.decreases-loop-next
decreases-loop-next l = length l.row - l.members.from
