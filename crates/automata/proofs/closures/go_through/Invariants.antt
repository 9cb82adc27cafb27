-- the rows so far are done
use Rattle.automata.proofs.ClosedRows.{AreDoneBelow}
use Rattle.automata.proofs.closures.go_through.Given as goal

abbrev pub invariant-loop-row : goal.invariant-loop-row
invariant-loop-row l = AreDoneBelow l.fn.rows l.middle l.reached l.row-index l.rows
