-- A star-free list as a value: its nodes and its root.
use Rattle.std.specs.Prelude.{◌≡◌, ◌<◌, ◌≤◌, ℕ, List, length}
use Rattle.star_free_theory.specs.declared.nodes.SfNode.{SfNode}
use Rattle.star_free_theory.specs.declared.nodes.SfNode.TheVariants as node
use Rattle.star_free_theory.specs.StarFree.{IsStarFreeList}
use Rattle.star_free_theory.specs.Pruning.{node_at}

pub record StarFreeList : Type 0 where
  pub nodes : List SfNode
  pub root : ℕ

abbrev pub most_nodes : ℕ
most_nodes = 1000000

-- a star-free list of at most so many nodes
pub record IsSfList (l : StarFreeList) : Type 0 where
  pub list : IsStarFreeList l.nodes l.root
  pub few : length l.nodes ≤ most_nodes

-- each letter of the nodes is one of k
abbrev pub AreLettersBelow : ℕ → List SfNode → Type 0
AreLettersBelow k nodes = (n a : ℕ) → node_at nodes n ≡ node.Letter a → a < k
