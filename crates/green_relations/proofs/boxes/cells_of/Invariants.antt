use Rattle.green_relations.specs.Layout.{AreCells}
use Rattle.green_relations.proofs.boxes.cells_of.Given as goal

abbrev pub invariant-loop-element : goal.invariant-loop-element
invariant-loop-element l =
    AreCells l.boxes l.rows l.columns l.wide l.corners l.element l.cells.items
