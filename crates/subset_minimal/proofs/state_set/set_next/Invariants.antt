-- the next set has the states to which steps lead from the members so far
use Rattle.std.proofs.Common.{◌≡◌, ◌≤◌, ◌-◌}
use Rattle.subset_minimal.proofs.Sets.{AreTargetsBelow}
use Rattle.subset_minimal.proofs.state_set.set_next.Given as goal

abbrev pub invariant-loop-next : goal.invariant-loop-next
invariant-loop-next l = record {
  same : l.members.marks ≡ l.set;
  within : l.members.from ≤ l.nfa.states;
  below : AreTargetsBelow l.nfa l.set l.letter l.members.from l.next;
}

abbrev pub decreases-loop-next : goal.decreases-loop-next
decreases-loop-next l = l.nfa.states - l.members.from
