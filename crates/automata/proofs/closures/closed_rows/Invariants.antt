-- the rows so far are closed
use Rattle.automata.proofs.ClosedRows.{AreClosedRows}
use Rattle.automata.proofs.closures.closed_rows.Given as goal

abbrev pub invariant-loop-row : goal.invariant-loop-row
invariant-loop-row l = AreClosedRows l.closures l.rows l.row-index l.all.items
