use Rattle.std.proofs.Common.{◌≡◌, ◌++◌}
use Rattle.std.specs.Prelude.{codes}
use Rattle.std.specs.Fmt.{decimal}
use Rattle.parallel_table.specs.ProductTables.{cell}
use Rattle.report_buffer.specs.Texts.{separated}
use Rattle.report_text.proofs.table_section.push_row.Given as goal

-- the products with the elements before this one stand behind the text that was there
abbrev pub invariant-loop-other : goal.invariant-loop-other
invariant-loop-other l =
    l.text.items ≡ l.fn.text.items
    ++ separated (codes " ") (λ j. decimal (cell l.table l.element j)) l.other
