use Rattle.std.proofs.Common.{◌≡◌, ◌++◌}
use Rattle.std.specs.Prelude.{codes}
use Rattle.green_relations.specs.EggBoxes.{box_at, row_at, cell_at}
use Rattle.report_buffer.specs.Texts.{separated}
use Rattle.report_text.specs.GreenSection.{marked, cell_text}
use Rattle.report_text.proofs.green_section.push_cells.Given as goal

-- the cells before this one stand behind the text that was there
abbrev pub invariant-loop-column : goal.invariant-loop-column
invariant-loop-column l =
    l.text.items ≡ l.fn.text.items ++ separated (codes " | ")
    (λ x. cell_text l.alphabet (marked l.cayley.words l.green.idempotents)
    (cell_at (row_at (box_at l.boxes l.index) l.row) x)) l.column
