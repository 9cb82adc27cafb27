use Rattle.parallel_table.proofs.Rows.{AreRowsTo}
use Rattle.parallel_table.proofs.filling.fill_rows.Given as goal

abbrev pub invariant-loop-row : goal.invariant-loop-row
invariant-loop-row l = AreRowsTo l.cayley l.first l.row l.cells
