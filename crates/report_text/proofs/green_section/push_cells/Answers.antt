use Rattle.std.proofs.Common.{◌++◌, ap, ◌∙◌}
use Rattle.std.specs.Prelude.{codes}
use Rattle.green_relations.specs.EggBoxes.{box_at, row_at, cell_at}
use Rattle.report_text.specs.GreenSection.{marked, cell_text}
use Rattle.report_buffer.proofs.Separated.{separated_next}
use Rattle.report_text.proofs.green_section.push_cells.Goals as goal

pub loop-column-preserved : goal.loop-column-preserved
loop-column-preserved c =
    let m = marked c.args.cayley.now.words c.args.green.now.idempotents in
    let row = row_at (box_at c.args.boxes.now c.args.index) c.args.row in
    separated_next (codes " | ") (λ x. cell_text c.args.alphabet.now m (cell_at row x))
    c.loop-column.column c.args.text.now.items c.loop-column.text.items _ _
    c.loop-column.invariant c.in_ok-push_gap.ensures
    (c.in_ok-push_cell.ensures
    ∙ ap (λ x. c.push_gap.new.text.items ++ cell_text c.args.alphabet.now m x)
    c.cell-cell.ensures.cell)
