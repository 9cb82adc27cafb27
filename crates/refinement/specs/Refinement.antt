-- Partitions of the nodes of a graph, and how one round of Moore's algorithm splits them.
use Rattle.std.specs.Prelude.{◌≡◌, ◌<◌, ◌≤◌, ◌↔◌, ℕ, Bool, cond, List, ◌∷◌, length, slice_index, map}
use Rattle.std.specs.List.{range_with_len}
use Rattle.language_theory.specs.Automaton.{is_marked}
use Rattle.language_theory.specs.ShortlexGraph.{Graph, target, IsNumbering, IsFirst, Alike}

-- the number of classes, and the class of each node
pub record Classes : Type 0 where
  pub count : ℕ
  pub classes : List ℕ

-- the classes of the targets of node i by the first n letters
abbrev pub target_classes : Graph → List ℕ → ℕ → ℕ → List ℕ
target_classes g classes i n = map (λ a. slice_index classes (target g i a)) (range_with_len 0 n)

-- what a round sees of a node: its mark, its class, and the classes of its targets
abbrev pub signature : Graph → List Bool → List ℕ → ℕ → List ℕ
signature g marks classes i =
    cond (is_marked marks i) 1 0 ∷ slice_index classes i ∷ target_classes g classes i g.letters

-- after the round two nodes share a class exactly if they had the same signature
pub record IsSplit (g : Graph) (marks : List Bool) (old : List ℕ) (new : Classes) : Type 0 where
  pub long : length new.classes ≡ g.size
  pub few : new.count ≤ g.size
  pub numbering : IsNumbering new.count new.classes
  pub split : (i j : ℕ) → i < g.size → j < g.size
      → (slice_index new.classes i ≡ slice_index new.classes j)
      ↔ (signature g marks old i ≡ signature g marks old j)

-- nodes that no word tells apart share a class
pub record KeepsAlike (g : Graph) (marks : List Bool) (p : Classes) : Type 0 where
  pub long : length p.classes ≡ g.size
  pub few : p.count ≤ g.size
  pub numbering : IsNumbering p.count p.classes
  pub alike : (i j : ℕ) → i < g.size → j < g.size → Alike g marks i j
      → slice_index p.classes i ≡ slice_index p.classes j

-- the least node of each class, in the order of the classes
pub record AreFirstNodes (count : ℕ) (classes firsts : List ℕ) : Type 0 where
  pub long : length firsts ≡ count
  pub first : (c : ℕ) → c < count → IsFirst classes c (slice_index firsts c)
