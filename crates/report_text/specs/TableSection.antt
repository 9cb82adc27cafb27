-- The text of the section `table`.
use Rattle.std.specs.Prelude.{ℕ, List, Option, Some, None, ◌++◌, codes}
use Rattle.std.specs.Fmt.{decimal}
use Rattle.parallel_table.specs.ProductTables.{ProductTable, cell}
use Rattle.report_buffer.specs.Texts.{texts_below, separated, number_line}

-- the number of elements
abbrev pub table_head : ProductTable → List ℕ
table_head t = number_line (codes "table") t.side

-- the products of the element i with each element, in order
abbrev pub products_text : ProductTable → ℕ → List ℕ
products_text t i = separated (codes " ") (λ j. decimal (cell t i j)) t.side ++ codes "\n"

-- the number of elements, and the products of each
abbrev pub table_text : ProductTable → List ℕ
table_text t = table_head t ++ texts_below (products_text t) t.side

-- there are more elements than the limit
abbrev pub table_limit_text : ℕ → List ℕ
table_limit_text most = number_line (codes "table limit") most

-- the section: the table, or its limit
abbrev pub section_text : Option ProductTable → ℕ → List ℕ
section_text (Some t) most = table_text t
section_text None most = table_limit_text most
