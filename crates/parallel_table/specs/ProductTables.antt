-- The table of all products of a finite monoid (Cayley's multiplication table).
use Rattle.std.specs.Prelude.{◌≡◌, ◌<◌, ◌≤◌, ◌+◌, ◌*◌, ℕ, List, length, slice_index}
use Rattle.language_theory.specs.ShortlexGraph.{SameNode}
use Rattle.monoid_theory.specs.Products.{IsProduct}
use Rattle.cayley_tables.specs.CayleyGraphs.{CayleyGraphs}
use Rattle.parallel_table.specs.declared.table.TheConstants.{MOST_SIDE}

-- the number of rows and of columns, and the cells of row 0, then those of row 1, and so on
pub record ProductTable : Type 0 where
  pub side : ℕ
  pub cells : List ℕ

-- a square of at most `MOST_SIDE` rows
pub record IsSquare (t : ProductTable) : Type 0 where
  pub few : t.side ≤ MOST_SIDE
  pub long : length t.cells ≡ t.side * t.side

-- the cell in row i and column j
abbrev pub cell : ProductTable → ℕ → ℕ → ℕ
cell t i j = slice_index t.cells (i * t.side + j)

-- the table has all products of the elements of these graphs
pub record IsTableOf (c : CayleyGraphs) (t : ProductTable) : Type 0 where
  pub side : t.side ≡ length c.words
  pub each : (i j : ℕ) → i < t.side → j < t.side
      → IsProduct (SameNode c.right) c.words i j (cell t i j)
