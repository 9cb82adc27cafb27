-- Nerode's equivalence of a language, and its minimal automaton (Pin: residuals, the minimal
-- automaton).
use Rattle.std.specs.Prelude.{◌≡◌, ◌++◌, ◌↔◌, ℕ, Bool, IsTrue, List, length}
use Rattle.language_theory.specs.Words.{Over}
use Rattle.language_theory.specs.Automaton.{is_marked}
use Rattle.language_theory.specs.ShortlexGraph.{Graph, node, IsGraphOf}

-- the same words, put behind u and behind v, give words of L
abbrev pub Nerode : ℕ → (List ℕ → Type 0) → List ℕ → List ℕ → Type 0
Nerode k L u v = (q : List ℕ) → Over k q → L (u ++ q) ↔ L (v ++ q)

-- a shortlex graph with a row of marks for its final nodes, and the least word of each node
pub record MinimalAutomaton : Type 0 where
  pub graph : Graph
  pub finals : List Bool
  pub words : List (List ℕ)

-- The nodes are the Nerode classes of L in shortlex order of their least words, and those of words
-- of L are final.
pub record IsMinimal (k : ℕ) (L : List ℕ → Type 0) (m : MinimalAutomaton) : Type 0 where
  pub classes : IsGraphOf k (Nerode k L) m.graph m.words
  pub long : length m.finals ≡ m.graph.size
  pub final : (w : List ℕ) → Over k w → IsTrue (is_marked m.finals (node m.graph w)) ↔ L w

-- the language of such an automaton: the words that lead to its final nodes
abbrev pub accepted : MinimalAutomaton → List ℕ → Type 0
accepted m w = IsTrue (is_marked m.finals (node m.graph w))
