use Rattle.simon_bound.specs.Steps.{AreSteps}
use Rattle.simon_bound.proofs.steps.steps_of.Given as goal

abbrev pub invariant-loop-class : goal.invariant-loop-class
invariant-loop-class l =
    AreSteps l.cayley l.green.j l.class l.starts.items l.classes.items
