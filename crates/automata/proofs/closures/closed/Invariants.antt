-- the set has what the members so far lead to
use Rattle.std.proofs.Common.{◌≡◌, ◌≤◌, ◌-◌, length}
use Rattle.automata.proofs.ClosedRows.{IsClosedBelow}
use Rattle.automata.proofs.closures.closed.Given as goal

abbrev pub invariant-loop-state : goal.invariant-loop-state
invariant-loop-state l = record {
  same : l.members.marks ≡ l.set;
  within : l.members.from ≤ length l.set;
  below : IsClosedBelow l.closures l.set l.members.from l.all;
}

abbrev pub decreases-loop-state : goal.decreases-loop-state
decreases-loop-state l = length l.set - l.members.from
