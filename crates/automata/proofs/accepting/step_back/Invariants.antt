-- the states so far are done
use Rattle.automata.proofs.StepsBack.{AreBeforeBelow}
use Rattle.automata.proofs.accepting.step_back.Given as goal

abbrev pub invariant-loop-state : goal.invariant-loop-state
invariant-loop-state l = AreBeforeBelow l.nfa l.letter l.marks l.state l.before
