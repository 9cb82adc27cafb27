use Rattle.std.proofs.Common.{◌++◌, ap, ◌∙◌}
use Rattle.std.specs.Prelude.{codes}
use Rattle.std.specs.Fmt.{decimal}
use Rattle.parallel_table.specs.ProductTables.{cell}
use Rattle.report_buffer.proofs.Separated.{separated_next}
use Rattle.report_text.proofs.table_section.push_row.Goals as goal

pub loop-other-preserved : goal.loop-other-preserved
loop-other-preserved c =
    separated_next (codes " ") (λ j. decimal (cell c.args.table.now c.args.element j))
    c.loop-other.other c.args.text.now.items c.loop-other.text.items _ _ c.loop-other.invariant
    c.in_ok-push_gap.ensures
    (c.in_ok-push_number.ensures
    ∙ ap (λ n. c.push_gap.new.text.items ++ decimal n) c.at.ensures)
