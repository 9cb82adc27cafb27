-- the rows of the states so far
use Rattle.automata.specs.Closures.{AreNearRows}
use Rattle.automata.proofs.closures.near_rows.Given as goal

abbrev pub invariant-loop-state : goal.invariant-loop-state
invariant-loop-state l = AreNearRows l.nfa l.state l.rows.items
