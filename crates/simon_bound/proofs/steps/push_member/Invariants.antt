use Rattle.simon_bound.specs.Steps.{Gains, IsStep}
use Rattle.simon_bound.proofs.steps.push_member.Given as goal

abbrev pub invariant-loop-letter : goal.invariant-loop-letter
invariant-loop-letter l =
    Gains (IsStep l.cayley l.green.j l.letter l.member) l.fn.classes.items l.classes.items
