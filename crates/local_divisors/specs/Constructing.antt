-- What a table of products is a list constructed from, and what the construction answers.
use Rattle.std.specs.Prelude.{◌≡◌, ◌<◌, ◌≤◌, ℕ, List, length, slice_index, All, Result, Ok, Err}
use Rattle.parallel_table.specs.ProductTables.{ProductTable, cell}
use Rattle.star_free_theory.specs.declared.nodes.SfNode.{SfNode}
use Rattle.star_free_theory.specs.Construction.{Outcome, Algebra, IsAlgebra, count_from, done}
use Rattle.star_free_lists.specs.SfList.{StarFreeList, most_nodes}
use Rattle.local_divisors.specs.Building.{Stops}
use Rattle.local_divisors.specs.declared.faults.SfFault.{SfFault}
use Rattle.syn_words.specs.Alphabet.{most_letters}

-- so deep instances are treated
abbrev pub most_depth : ℕ
most_depth = 400

-- the numbers of a table with their products, the identity 0 and images of letters
abbrev pub algebra_of : ProductTable → List ℕ → Algebra
algebra_of t images =
    record {
      elements = count_from 0 t.side;
      product = cell t;
      identity = 0;
      image = slice_index images;
    }

-- the table is that of an aperiodic monoid with identity 0 that the images of at most 60 letters
-- generate, and the finals are among its elements
pub record CanConstruct (t : ProductTable) (images finals : List ℕ) (most : ℕ) : Type 0 where
  pub algebra : IsAlgebra (length images) (algebra_of t images)
  pub letters : length images ≤ most_letters
  pub within : All (λ p. p < t.side) finals
  pub few : most ≤ most_nodes

-- a list is what the construction comes to, and a fault why it stops
abbrev pub IsAnswer : Outcome (List SfNode × ℕ) → Result StarFreeList SfFault → Type 0
IsAnswer o (Ok l) = o ≡ done (l.nodes, l.root)
IsAnswer o (Err e) = Stops o e
