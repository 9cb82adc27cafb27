-- the automaton keeps its states
use Rattle.std.proofs.Common.{◌≡◌, ◌+◌}
use Rattle.automata_tests.proofs.empty_moves.cycle.Given as goal

abbrev pub invariant-loop-state : goal.invariant-loop-state
invariant-loop-state l = l.nfa.states ≡ l.last + 1
