-- none of the members so far is final
use Rattle.std.proofs.Common.{◌≡◌, ℕ, ◌<◌, ◌≤◌, ◌-◌, IsTrue}
use Rattle.language_theory.specs.Automaton.{is_final, is_marked}
use Rattle.subset_minimal.proofs.state_set.has_final.Given as goal

abbrev pub invariant-loop-state : goal.invariant-loop-state
invariant-loop-state l = record {
  same : l.members.marks ≡ l.set;
  within : l.members.from ≤ l.nfa.states;
  none : (q : ℕ) → q < l.members.from → IsTrue (is_marked l.set q) → IsTrue (is_final l.nfa q) → ⊥;
}

abbrev pub decreases-loop-state : goal.decreases-loop-state
decreases-loop-state l = l.nfa.states - l.members.from
