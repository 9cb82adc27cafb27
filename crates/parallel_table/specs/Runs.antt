-- Runs of whole rows of a table of products, each of which is filled by a part of the workers.
use Rattle.std.specs.Prelude.{◌≡◌, ◌<◌, ◌≤◌, ◌+◌, ◌-◌, ◌*◌, ◌/◌, ℕ, List, length, slice_index}
use Rattle.language_theory.specs.ShortlexGraph.{SameNode}
use Rattle.monoid_theory.specs.Products.{IsProduct}
use Rattle.cayley_tables.specs.declared.limits.TheConstants.{MOST_WORKERS}
use Rattle.cayley_tables.specs.CayleyGraphs.{CayleyGraphs, AreCayleyGraphs}
use Rattle.parallel_table.specs.declared.table.TheConstants.{MOST_SIDE}
use Rattle.parallel_table.specs.declared.filling.Parts.{Parts}

-- where `all` parts share the rows, the first row of a part, and the number of rows behind the last
abbrev pub first_row : ℕ → ℕ → ℕ → ℕ
first_row side all part = part * side / all

-- the number of rows of these parts
abbrev pub rows_of : ℕ → Parts → ℕ
rows_of side parts =
    first_row side parts.all (parts.first + parts.count) - first_row side parts.all parts.first

-- the two halves of some parts: each has one at least, and the second goes on where the first ends
pub record AreHalves (parts left right : Parts) : Type 0 where
  pub first : left.first ≡ parts.first
  pub next : right.first ≡ parts.first + left.count
  pub whole : left.count + right.count ≡ parts.count
  pub some : 1 ≤ left.count
  pub others : 1 ≤ right.count
  pub left_all : left.all ≡ parts.all
  pub right_all : right.all ≡ parts.all

-- the products of the element i with each element, in order
pub record IsProductRow (c : CayleyGraphs) (i : ℕ) (row : List ℕ) : Type 0 where
  pub long : length row ≡ length c.words
  pub each : (j : ℕ) → j < length c.words
      → IsProduct (SameNode c.right) c.words i j (slice_index row j)

-- the rows of `count` elements from `first` on, one after another
pub record AreProductRows (c : CayleyGraphs) (first count : ℕ) (cells : List ℕ) : Type 0 where
  pub long : length cells ≡ count * length c.words
  pub each : (i j : ℕ) → i < count → j < length c.words
      → IsProduct (SameNode c.right) c.words (first + i) j (slice_index cells (i * length c.words + j))

-- the rows of these parts
abbrev pub AreRowsOf : CayleyGraphs → Parts → List ℕ → Type 0
AreRowsOf c parts cells =
    AreProductRows c (first_row (length c.words) parts.all parts.first)
    (rows_of (length c.words) parts) cells

-- these parts can fill n cells
pub record CanFill (c : CayleyGraphs) (parts : Parts) (n : ℕ) : Type 0 where
  pub graphs : AreCayleyGraphs c
  pub small : length c.words ≤ MOST_SIDE
  pub some : 1 ≤ parts.count
  pub within : parts.first + parts.count ≤ parts.all
  pub few : parts.all ≤ MOST_WORKERS
  pub long : n ≡ rows_of (length c.words) parts * length c.words
