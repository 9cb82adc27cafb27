use Rattle.syntactic_enumeration.specs.Steps.{AreStepsBelow}
use Rattle.syntactic_enumeration.proofs.steps.steps_of.Given as goal

abbrev pub invariant-loop-letter : goal.invariant-loop-letter
invariant-loop-letter l = AreStepsBelow l.dfa.graph l.letter l.generators
