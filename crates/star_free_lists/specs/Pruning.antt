-- Pruning a list in one pass down, which marks the nodes that the root needs, and one pass up.
use Rattle.std.specs.Prelude.{◌≡◌, ◌≢◌, ◌<◌, ◌≤◌, ◌⊎◌, ◌↔◌, ℕ, Bool, true, List, length, slice_index}
use Rattle.language_theory.specs.Automaton.{is_marked}
use Rattle.star_free_theory.specs.declared.nodes.SfNode.{SfNode}
use Rattle.star_free_theory.specs.Pruning.{IsNeeded, IsAt, IsRenumbered, Names, node_at}

-- no two nodes are equal
abbrev pub AreDistinct : List SfNode → Type 0
AreDistinct nodes = (p q : ℕ) → p < q → q < length nodes → node_at nodes p ≢ node_at nodes q

-- the marks are those of the nodes that the root needs
pub record AreNeeded (nodes : List SfNode) (root : ℕ) (marks : List Bool) : Type 0 where
  pub long : length marks ≡ length nodes
  pub needed : (i : ℕ) → is_marked marks i ≡ true ↔ IsNeeded nodes root i

-- the nodes that a node names are marked too
pub record AreNamedMarked (node : SfNode) (old new : List Bool) : Type 0 where
  pub long : length new ≡ length old
  pub marked : (i : ℕ) → is_marked new i ≡ true ↔ (is_marked old i ≡ true ⊎ Names node i)

-- marks of nodes that the root needs, with those that the marked nodes from number n on name
pub record IsMarking (nodes : List SfNode) (root n : ℕ) (marks : List Bool) : Type 0 where
  pub long : length marks ≡ length nodes
  pub needed : (i : ℕ) → is_marked marks i ≡ true → IsNeeded nodes root i
  pub root_marked : is_marked marks root ≡ true
  pub closed : (j i : ℕ) → n ≤ j → is_marked marks j ≡ true → Names (node_at nodes j) i
      → is_marked marks i ≡ true

-- the marked ones of the first n nodes, numbered anew by their places in `kept`
pub record AreKept (nodes : List SfNode) (marks : List Bool) (n : ℕ) (kept : List ℕ)
    (pruned : List SfNode) (places : List ℕ) : Type 0 where
  pub few : length kept ≤ n
  pub rises : (p q : ℕ) → p < q → q < length kept → slice_index kept p < slice_index kept q
  pub marked : (i p : ℕ) → IsAt kept p i → (i < n) × (is_marked marks i ≡ true)
  pub places_long : length places ≡ length nodes
  pub placed : (i : ℕ) → i < n → is_marked marks i ≡ true → IsAt kept (slice_index places i) i
  pub long : length pruned ≡ length kept
  pub node : (p : ℕ) → p < length kept
      → IsRenumbered kept (node_at nodes (slice_index kept p)) (node_at pruned p)
