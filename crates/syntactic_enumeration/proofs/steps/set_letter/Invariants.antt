use Rattle.syntactic_enumeration.proofs.StateMaps.{AreStepsTo}
use Rattle.syntactic_enumeration.proofs.steps.set_letter.Given as goal

abbrev pub invariant-loop-state : goal.invariant-loop-state
invariant-loop-state l = AreStepsTo l.dfa.graph l.letter l.state l.generators
