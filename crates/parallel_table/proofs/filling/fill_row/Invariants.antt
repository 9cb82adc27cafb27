use Rattle.std.proofs.Common.{ℕ, ◌<◌}
use Rattle.std.specs.Prelude.{slice_index}
use Rattle.language_theory.specs.ShortlexGraph.{SameNode}
use Rattle.monoid_theory.specs.Products.{IsProduct}
use Rattle.parallel_table.proofs.filling.fill_row.Given as goal

abbrev pub invariant-loop-by : goal.invariant-loop-by
invariant-loop-by l =
    (j : ℕ) → j < l.by
    → IsProduct (SameNode l.cayley.right) l.cayley.words l.element j (slice_index l.row j)
