-- Pruning a star-free list: the nodes that the root needs, in their order, numbered anew.
use Rattle.std.specs.Prelude.{◌≡◌, ◌<◌, ◌⊎◌, ◌↔◌, ℕ, List, length, slice_index, slice_index_or}
use Rattle.star_free_theory.specs.StarFree.{SfNode}
use Rattle.star_free_theory.specs.declared.nodes.SfNode.TheVariants as node

abbrev pub node_at : List SfNode → ℕ → SfNode
node_at nodes n = slice_index_or nodes n node.Empty

-- a node names the node i
abbrev pub Names : SfNode → ℕ → Type 0
Names (node.Not p) i = p ≡ i
Names (node.Cat p q) i = (p ≡ i) ⊎ (q ≡ i)
Names (node.Or p q) i = (p ≡ i) ⊎ (q ≡ i)
Names (node.And p q) i = (p ≡ i) ⊎ (q ≡ i)
Names x i = ⊥

-- the root needs node i: it is the root, or a node that the root needs names it
pub data IsNeeded (nodes : List SfNode) (root : ℕ) : ℕ → Type 0 where
  itself : IsNeeded nodes root root
  part : {j : ℕ} (i : ℕ) → IsNeeded nodes root j → Names (node_at nodes j) i → IsNeeded nodes root i

-- i stands at the place p
abbrev pub IsAt : List ℕ → ℕ → ℕ → Type 0
IsAt kept p i = (p < length kept) × (slice_index kept p ≡ i)

-- the second node is the first, with each named node given by its place among those that are kept
abbrev pub IsRenumbered : List ℕ → SfNode → SfNode → Type 0
IsRenumbered kept node.Empty node.Empty = Unit {0}
IsRenumbered kept node.Eps node.Eps = Unit {0}
IsRenumbered kept (node.Letter a) (node.Letter b) = a ≡ b
IsRenumbered kept (node.Not i) (node.Not p) = IsAt kept p i
IsRenumbered kept (node.Cat i j) (node.Cat p q) = IsAt kept p i × IsAt kept q j
IsRenumbered kept (node.Or i j) (node.Or p q) = IsAt kept p i × IsAt kept q j
IsRenumbered kept (node.And i j) (node.And p q) = IsAt kept p i × IsAt kept q j
IsRenumbered kept _ _ = ⊥

-- `kept` has the places of the nodes that the root needs, in rising order, and the other list has
-- these nodes, numbered anew, with the root at its new place
pub record IsPruning (nodes : List SfNode) (root : ℕ) (kept : List ℕ) (pruned : List SfNode)
    (place : ℕ) : Type 0 where
  pub rises : (p q : ℕ) → p < q → q < length kept → slice_index kept p < slice_index kept q
  pub needed : (i : ℕ) → IsNeeded nodes root i ↔ (p : ℕ) × IsAt kept p i
  pub long : length pruned ≡ length kept
  pub node : (p : ℕ) → p < length kept
      → IsRenumbered kept (node_at nodes (slice_index kept p)) (node_at pruned p)
  pub root_at : IsAt kept place root
