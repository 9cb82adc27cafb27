-- the rows lead on through the states so far
use Rattle.automata.proofs.ClosedRows.{AreClosedBelow}
use Rattle.automata.proofs.closures.closures.Given as goal

abbrev pub invariant-loop-middle : goal.invariant-loop-middle
invariant-loop-middle l = AreClosedBelow l.nfa l.middle l.rows.items
